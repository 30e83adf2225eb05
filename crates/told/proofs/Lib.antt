pub mod States
pub mod Fields
pub mod Handed
pub mod Numbers
