pub mod Along
pub mod Front
pub mod Laws
