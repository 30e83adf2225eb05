pub mod Open
pub mod Said
pub mod File
pub mod Reader
pub mod Code
