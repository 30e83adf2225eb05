pub mod Records
pub mod Fits
pub mod Code
