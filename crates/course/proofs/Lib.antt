pub mod Kept
pub mod Filling
pub mod Refusals
pub mod Laws
pub mod Worked
