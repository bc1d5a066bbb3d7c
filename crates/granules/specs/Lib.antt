pub mod Nibs
pub mod Packed
