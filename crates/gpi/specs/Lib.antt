pub mod Gpi
pub mod Size
