pub mod Bytes
pub mod Decimal
pub mod Lengths
pub mod Cases
