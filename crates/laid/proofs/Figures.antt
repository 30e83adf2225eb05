-- A number's digits: how many they are, and how they are put from the last to the first.
-- Assumes nothing.
use Prim.Native.Nat.{ℕ, zero, suc, ◌+◌, ◌-◌, ◌/◌, ◌%◌, ◌≤◌, ◌<◌}
use mathlib.Core.Path.{◌≡◌, refl, ◌∙◌, sym, ap}
use mathlib.Core.List.{List, [], ◌∷◌}
use native.Mathlib.Omega.{arith}
use lib.ListN.{length, set, length-append}
use lib.Seq.{sets, set_comm}
use Rattle.number.specs.Print.{print_number}
use Rattle.laid.proofs.Numerals.{count, count_none, count_more, width_of_lem, lasts}
use Rattle.laid.proofs.Along.{sets_more}

-- ---- how many
pub one_digit : (n : ℕ) → n < 10 → length (print_number n) ≡ 1
one_digit n h = let z : n / 10 ≡ 0 = omega arith in width_of_lem n ∙ ap (λ (k : ℕ). suc (count k)) z ∙ ap suc count_none

one_more : (n : ℕ) → 10 ≤ n → length (print_number n) ≡ suc (length (print_number (n / 10)))
one_more n h = width_of_lem n ∙ ap suc (count_more (n / 10) (omega arith)) ∙ ap suc (sym (width_of_lem (n / 10)))

pub two_digits : (n : ℕ) → 10 ≤ n → n < 100 → length (print_number n) ≡ 2
two_digits n h l = one_more n h ∙ ap suc (one_digit (n / 10) (omega arith))

pub three_digits : (n : ℕ) → 100 ≤ n → n < 1000 → length (print_number n) ≡ 3
three_digits n h l = one_more n (omega arith) ∙ ap suc (two_digits (n / 10) (omega arith) (omega arith))

pub four_digits : (n : ℕ) → 1000 ≤ n → n < 10000 → length (print_number n) ≡ 4
four_digits n h l = one_more n (omega arith) ∙ ap suc (three_digits (n / 10) (omega arith) (omega arith))

pub five_digits : (n : ℕ) → 10000 ≤ n → n < 100000 → length (print_number n) ≡ 5
five_digits n h l = one_more n (omega arith) ∙ ap suc (four_digits (n / 10) (omega arith) (omega arith))

-- ---- from the last to the first
lasts_long : (k n : ℕ) → length (lasts k n) ≡ k
unfolding lasts
lasts_long zero n = refl
lasts_long (suc k) n =
    let m : length (lasts k (n / 10)) ≡ k = lasts_long k (n / 10) in
    length-append (lasts k (n / 10)) ((48 + n % 10) ∷ []) ∙ omega (arith, m)

-- a byte after others, put before them
set_first : (out vs : List ℕ) (at j b : ℕ) → at + length vs ≤ j → sets (set out j b) at vs ≡ set (sets out at vs) j b
set_first out [] at j b h = refl
set_first out (v ∷ vs) at j b h =
    ap (λ (o : List ℕ). sets o (suc at) vs) (set_comm out j at b v (λ e. omega arith)) ∙ set_first (set out at v) vs (suc at) j b (omega arith)

last_put : (out : List ℕ) (at m left : ℕ) → sets (set out (at + m) (48 + left % 10)) at (lasts m (left / 10)) ≡ sets out at (lasts (suc m) left)
unfolding lasts
last_put out at m left =
    let n : length (lasts m (left / 10)) ≡ m = lasts_long m (left / 10) in
    set_first out (lasts m (left / 10)) at (at + m) (48 + left % 10) (omega (arith, n))
    ∙ ap (λ (k : ℕ). set (sets out at (lasts m (left / 10))) (at + k) (48 + left % 10)) (sym n)
    ∙ sym (sets_more out (lasts m (left / 10)) ((48 + left % 10) ∷ []) at)

-- the digit before place k, and those before it
pub digit_put : (out : List ℕ) (at k left : ℕ) → at < k → sets (set out (k - 1) (48 + left % 10)) at (lasts (k - 1 - at) (left / 10)) ≡ sets out at (lasts (k - at) left)
digit_put out at k left h =
    let a : at + (k - 1 - at) ≡ k - 1 = omega arith in
    let b : suc (k - 1 - at) ≡ k - at = omega arith in
    ap (λ (j : ℕ). sets (set out j (48 + left % 10)) at (lasts (k - 1 - at) (left / 10))) (sym a)
    ∙ last_put out at (k - 1 - at) left
    ∙ ap (λ (j : ℕ). sets out at (lasts j left)) b

-- no digit is left
pub digits_end : (out : List ℕ) (at k left : ℕ) → k ≤ at → sets out at (lasts (k - at) left) ≡ out
unfolding lasts
digits_end out at k left h = let z : k - at ≡ 0 = omega arith in ap (λ (j : ℕ). sets out at (lasts j left)) z
