pub mod Chain
pub mod Promises
pub mod Granules
pub mod Cases
pub mod Arena
pub mod Numbers
pub mod Found
