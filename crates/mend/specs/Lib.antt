pub mod Outcome
pub mod Mends
