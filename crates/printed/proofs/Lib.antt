pub mod Held
pub mod Laws
pub mod Digits
pub mod Decimals
pub mod Fields
pub mod Dates
