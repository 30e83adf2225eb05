pub mod Found
pub mod Calendar
pub mod Code
