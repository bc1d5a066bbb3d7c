pub mod Digits
pub mod Masks
pub mod Store
pub mod Packed
