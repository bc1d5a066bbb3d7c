pub mod Fields
pub mod Flags
pub mod Index
pub mod Format
pub mod Widths
