pub mod Happened
pub mod Lead
pub mod Agreement
pub mod Looks
pub mod Cut
pub mod Demand3
pub mod Witness
