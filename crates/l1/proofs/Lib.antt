pub mod Entries
pub mod Sized
pub mod Packed
pub mod Alike
pub mod Cases
pub mod Arm
pub mod Tables
pub mod Sizes
