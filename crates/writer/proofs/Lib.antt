pub mod WriteBack
pub mod ReadBack
pub mod Line
pub mod Laws
pub mod Calls
