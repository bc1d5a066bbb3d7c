pub mod Walk
pub mod Steps
pub mod Stream
pub mod Opened
