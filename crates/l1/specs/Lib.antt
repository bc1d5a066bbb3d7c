pub mod L1
pub mod Arm
