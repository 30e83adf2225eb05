-- The definitions in the code's shape, which the contracts of the private functions cite. No public contract does.
pub mod Pairs
pub mod States
