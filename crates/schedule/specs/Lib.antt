pub mod Schedule
pub mod Kept
