pub mod Numbers
pub mod Fits
pub mod RoundTrip
pub mod Only
