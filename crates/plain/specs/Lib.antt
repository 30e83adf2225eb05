pub mod Held
pub mod Codes
pub mod Fits
