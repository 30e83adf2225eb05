-- The definitions in the code's shape. `Rattle.text.proofs.Scan` says that they are the rules of `Text`.
pub mod Scan
