pub mod Masks
pub mod Table
pub mod Faults
pub mod Laws
pub mod Former
pub mod Times
pub mod Reading
