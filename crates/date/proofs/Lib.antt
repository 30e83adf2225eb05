pub mod Digits
pub mod Eras
pub mod Style
pub mod Printed
pub mod Laws
