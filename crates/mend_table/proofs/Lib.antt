pub mod Lists
pub mod Slices
pub mod Single
pub mod Judging
pub mod Walks
pub mod Checks
pub mod Yes
