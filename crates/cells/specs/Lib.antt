pub mod Limits
pub mod Text
pub mod Test
pub mod Cells
pub mod Writing
pub mod Same
pub mod Code
