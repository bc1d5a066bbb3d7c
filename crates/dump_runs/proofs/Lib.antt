pub mod Stretch
pub mod Near
pub mod Through
pub mod Walk
pub mod Answers
