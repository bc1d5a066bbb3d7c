pub mod Text
pub mod Chunks
pub mod Opens
