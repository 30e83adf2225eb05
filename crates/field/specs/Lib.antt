pub mod Field
pub mod Code
