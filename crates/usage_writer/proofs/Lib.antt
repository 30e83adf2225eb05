pub mod Printed
pub mod Back
pub mod Laws
pub mod Writing
