pub mod Bounds
pub mod Cases
pub mod Flags
pub mod Geometry
pub mod IndexCases
pub mod Format
