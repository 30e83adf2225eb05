pub mod Scan
pub mod Laws
