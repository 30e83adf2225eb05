pub mod Numerals
pub mod Figures
pub mod Along
pub mod Laws
