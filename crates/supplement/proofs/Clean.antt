-- What a code with no fault has passed: its letter is known, the rest of it has no fault, and with none of the other four letters it is an amount.
-- Assumes nothing.
use Prim.Native.Nat.{ℕ}
use mathlib.Core.Path.{◌≡◌}
use mathlib.Core.Bool.{true, false}
use mathlib.Core.List.{List}
use native.Mathlib.Omega.{arith}
use Rattle.cells.specs.Text.{among}
use Rattle.cells.specs.Test.{first}
use Rattle.cells.specs.Cells.{char, cells}
use Rattle.cells.proofs.Back.{passed}
use Rattle.supplement.specs.Supplement.{amount_cells, rest, tests}
use Rattle.supplement.specs.Amount.{columns, nothing}

module _ (s : List ℕ) (h : (first (tests s)).number ≡ 0) where
  pub known : among "IWDCV" (char s 1) ≡ true
  known = (passed (among "IWDCV" (char s 1)) 2 1 (rest s) (λ z. omega arith) h).0

  pub clean : (first (rest s)).number ≡ 0
  clean = (passed (among "IWDCV" (char s 1)) 2 1 (rest s) (λ z. omega arith) h).1

  module _ (i : among "I" (char s 1) ≡ false) (w : among "W" (char s 1) ≡ false) (d : among "D" (char s 1) ≡ false) (c : among "C" (char s 1) ≡ false) where
    pub amounts : (among "12345" (char s 2) ≡ true) × ((first (cells 6 2 (columns nothing 6 2 s) s)).number ≡ 0)
    unfolding cells
    amounts =
        let e : (first (cells 7 1 (amount_cells s) s)).number ≡ 0 = simp (i, w, d, c) at clean in
        passed (among "12345" (char s 2)) 5 2 (cells 6 2 (columns nothing 6 2 s) s) (λ z. omega arith) e
