pub mod Place
pub mod Sited
pub mod Refusals
pub mod Lent
pub mod B
pub mod Inner
