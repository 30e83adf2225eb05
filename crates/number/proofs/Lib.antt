pub mod Sizes
pub mod Steps
pub mod Whole
pub mod Print
pub mod Laws
