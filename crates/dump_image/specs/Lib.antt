pub mod Image
pub mod Encoding
