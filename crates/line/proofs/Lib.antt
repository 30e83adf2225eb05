pub mod Steps
pub mod Frame
pub mod Pairs
pub mod Fields
pub mod Laws
pub mod Walk
