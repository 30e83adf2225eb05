pub mod Order
pub mod Next
pub mod Code
