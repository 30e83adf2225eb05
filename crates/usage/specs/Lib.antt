pub mod Usage
pub mod Times
pub mod Code
