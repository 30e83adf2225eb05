pub mod Months
pub mod Years
pub mod Cases
pub mod Laws
