-- Digits of a field by their places, and the numbers that they make.
-- Assumes nothing.
use Prim.Native.Nat.{ℕ, zero, suc, ◌+◌, ◌-◌, ◌*◌, ◌%◌, ◌<◌, ◌≤◌}
use mathlib.Core.Path.{◌≡◌}
use mathlib.Core.Bool.{true}
use mathlib.Core.List.{List, [], ◌∷◌}
use native.Mathlib.Omega.{arith}
use borrow.Author.Tests.{le-leb}
use lib.ListN.{length, get_or, take}
use Rattle.number.specs.Number.{figure, figures, value}
use Rattle.number.proofs.Sizes.{figures_parts}
use Rattle.date.specs.Date.{two}

-- a digit of digits
pub digit_at : (s : List ℕ) (i : ℕ) → figures s ≡ true → i < length s → (48 ≤ get_or s i 0) × (get_or s i 0 ≤ 57)
digit_at [] i h l = absurd (omega arith)
digit_at (c ∷ s) zero h l = let f = figures_parts c s h in (f.0, f.1)
digit_at (c ∷ s) (suc i) h l = digit_at s i (figures_parts c s h).2 (omega arith)

-- two of them, one after the other
pub digits_at : (s : List ℕ) (i : ℕ) → figures s ≡ true → i + 2 ≤ length s →
    (48 ≤ get_or s i 0) × (get_or s i 0 ≤ 57) × (48 ≤ get_or s (i + 1) 0) × (get_or s (i + 1) 0 ≤ 57)
digits_at s i h l =
    let a = digit_at s i h (omega arith) in let b = digit_at s (i + 1) h (omega arith) in (a.0, a.1, b.0, b.1)

-- the first digit,
pub first_value : (s : List ℕ) → 1 ≤ length s → value 0 (take 1 s) ≡ get_or s 0 0 - 48
unfolding value
first_value [] l = absurd (omega arith)
first_value (a ∷ s) l = omega arith

-- two digits, by their places,
pub two_value : (s : List ℕ) (i : ℕ) → i + 2 ≤ length s → two s i ≡ (get_or s i 0 - 48) * 10 + (get_or s (i + 1) 0 - 48)
unfolding value
two_value [] i l = absurd (omega arith)
two_value (a ∷ []) i l = absurd (omega arith)
two_value (a ∷ b ∷ s) zero l = omega arith
two_value (a ∷ b ∷ s) (suc i) l =
    let e : suc i + 1 ≡ suc (i + 1) = omega arith in rw e (two_value (b ∷ s) i (omega arith))

-- and four digits as two numbers
pub four_value : (s : List ℕ) → 4 ≤ length s → value 0 (take 4 s) ≡ two s 0 * 100 + two s 2
unfolding value
four_value [] l = absurd (omega arith)
four_value (a ∷ []) l = absurd (omega arith)
four_value (a ∷ b ∷ []) l = absurd (omega arith)
four_value (a ∷ b ∷ c ∷ []) l = absurd (omega arith)
four_value (a ∷ b ∷ c ∷ d ∷ s) l = omega arith

-- the last digit of a number is a digit
pub figure_last : (n : ℕ) → figure (48 + n % 10) ≡ true
unfolding figure
figure_last n = rw (le-leb 48 (48 + n % 10) (omega arith), le-leb (48 + n % 10) 57 (omega arith))
