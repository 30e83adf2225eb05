pub mod Along
pub mod Laws
