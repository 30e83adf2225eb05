pub mod Set
pub mod Code
