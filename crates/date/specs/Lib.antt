pub mod Date
pub mod Print
