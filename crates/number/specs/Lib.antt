pub mod Number
pub mod Amount
pub mod Print
pub mod Code
