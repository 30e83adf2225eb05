pub mod Lines
pub mod Along
pub mod Order
pub mod Laws
