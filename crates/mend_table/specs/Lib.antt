pub mod Mend
pub mod Normal
pub mod Inner
