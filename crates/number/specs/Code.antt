-- The definitions in the code's shape. `Rattle.number.proofs.Whole` says that they are the rules of `Number` and `Amount`.
pub mod Parts
