pub mod Supplement
pub mod Amount
pub mod Code
