pub mod Places
pub mod Breaks
pub mod Steps
pub mod Scans
pub mod Fuses
pub mod Sets
