pub mod Done
pub mod Journal
mod Kind
