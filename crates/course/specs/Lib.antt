pub mod Plan
pub mod Calendar
pub mod Kept
pub mod Code
