pub mod Stands
pub mod Cells
pub mod Built
pub mod Whole
pub mod Same
pub mod Leaves
