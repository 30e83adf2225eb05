pub mod Table
pub mod Row
pub mod Code
