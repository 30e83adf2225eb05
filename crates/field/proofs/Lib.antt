pub mod Characters
pub mod Bridge
pub mod Laws
