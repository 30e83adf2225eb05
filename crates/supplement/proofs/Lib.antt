pub mod Eight
pub mod Sets
pub mod Rows
pub mod Clean
pub mod Columns
pub mod Shape
pub mod Laws
