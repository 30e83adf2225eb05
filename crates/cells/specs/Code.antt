-- The definitions in the code's shape: a set of characters is a mask of 37 bits, bit v for the value v. `Rattle.cells.proofs.Bridge` says
-- that they are the rules of `Text`, `Test` and `Cells`.
pub mod Mask
