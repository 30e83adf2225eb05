pub mod Marks
pub mod Kept
pub mod Along
pub mod Told
