pub mod Tables
pub mod History
pub mod Story
