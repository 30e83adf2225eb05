pub mod Numbers
pub mod Print
pub mod Back
pub mod Laws
pub mod Writing
