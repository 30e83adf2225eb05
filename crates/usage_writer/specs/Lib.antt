pub mod Print
pub mod Writes
