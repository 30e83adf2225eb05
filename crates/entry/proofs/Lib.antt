pub mod Bridge
pub mod Judged
pub mod Walk
pub mod Laws
