-- A rule for every number below a bound, by one computed test.
-- Assumes nothing.
use Prim.Native.Nat.{ℕ, ◌≤◌, ◌<◌}
use mathlib.Core.Path.{◌≡◌, refl}
use mathlib.Core.Bool.{Bool, true, false, cond, ◌&&◌}
use native.Mathlib.Omega.{arith}
use borrow.Author.Tests.{lt-ltb, leb-true}
use lib.Dec.{ltb, leb}
use Rattle.cells.proofs.Alike.{byte, below}
use Rattle.supplement.specs.Supplement.{last_day}

-- the test, and the rule
abbrev pub Under : (ℕ → Bool) → ℕ → Type 0
Under f n = below (λ k. cond (ltb k n) (f k) true) (λ k. true) 256 ≡ true

pub under : (f : ℕ → Bool) (n : ℕ) → Under f n → n ≤ 256 → (k : ℕ) → k < n → f k ≡ true
under f n t l k h = simp (lt-ltb k n h) at (byte (λ k. cond (ltb k n) (f k) true) (λ k. true) t k (omega arith))

pub and_intro : (a b : Bool) → a ≡ true → b ≡ true → a && b ≡ true
and_intro true b p q = q
and_intro false b p q = p

-- no month has more than 31 days
pub last_most : (m : ℕ) → m ≤ 12 → last_day m ≤ 31
unfolding last_day
last_most m h = leb-true _ _ (under (λ m. leb (last_day m) 31) 13 refl (omega arith) m (omega arith))
