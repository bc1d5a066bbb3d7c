pub mod Lookup
pub mod Set
pub mod Inner
pub mod Lends
