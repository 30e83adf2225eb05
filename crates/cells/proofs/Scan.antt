-- The first fault of a row, one place further on: what the loop over the places needs.
-- Assumes nothing.
use Prim.Native.Nat.{ℕ, suc, ◌+◌, ◌-◌, ◌<◌, ◌≤◌}
use mathlib.Core.Path.{◌≡◌}
use mathlib.Core.Bool.{true, false}
use mathlib.Core.List.{List}
use native.Mathlib.Omega.{arith}
use lib.Dec.{eqb}
use lib.ListN.{length}
use Rattle.std.specs.Prelude.{Err, Ok}
use Rattle.cells.specs.Test.{fault, passes}
use Rattle.cells.specs.Code.Mask.{wrong_at, scan, told}
use Rattle.cells.proofs.Split.{split}

nothing : (w : ℕ) → told w ≡ Ok tt → eqb w 0 ≡ true
nothing w h = split (eqb w 0) (λ e. e) (λ e. absurd (let k = simp e at h in cc))

wrong : (w n : ℕ) → told w ≡ Err n → (w ≡ n) × (eqb n 0 ≡ false)
wrong w n h = split (eqb w 0) (λ e. absurd (let k = simp e at h in cc)) (λ e. let k = simp e at h in let q : w ≡ n = cc in (q, rw q at e))

module _ (sets : List ℕ) (rise last : ℕ) (s : List ℕ) (from i : ℕ) where
  left : i < length s → length s - i ≡ suc (length s - (i + 1))
  left h = omega arith

  pub step : from ≤ i → i < length s → told (wrong_at sets rise last s (i - from) i) ≡ Ok tt →
      scan sets rise last s (length s - (i + 1)) (i + 1 - from) (i + 1) ≡ scan sets rise last s (length s - i) (i - from) i
  unfolding scan
  step a h e =
      let j : i + 1 - from ≡ i - from + 1 = omega arith in
      simp (j, left h, nothing _ e)

  pub stop : (n : ℕ) → i < length s → told (wrong_at sets rise last s (i - from) i) ≡ Err n →
      passes (scan sets rise last s (length s - i) (i - from) i) ≡ Err (fault n (i + 1))
  unfolding scan
  stop n h e =
      let w = wrong _ n e in
      simp (left h, w.0, w.1)

  pub done : length s ≤ i → passes (scan sets rise last s (length s - i) (i - from) i) ≡ Ok tt
  unfolding scan
  done h = let e : length s - i ≡ 0 = omega arith in simp e
