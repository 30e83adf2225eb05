-- How large the value of digits is.
-- Assumes nothing.
use Prim.Native.Nat.{ℕ, zero, suc, ◌+◌, ◌-◌, ◌*◌, ◌^◌, ◌<◌, ◌≤◌}
use mathlib.Core.Path.{◌≡◌, refl}
use mathlib.Core.Bool.{true}
use mathlib.Core.List.{List, [], ◌∷◌, ◌++◌}
use native.Mathlib.Nat.{lt_of_lt_of_le, pow-suc, one-le-pow, pow-le-pow_right, mul-le-mul_right, le-mul_of_pos_right}
use native.Mathlib.Numerals.{add-one}
use native.Mathlib.Omega.{arith}
use borrow.Author.Tests.{leb-true}
use lib.ListN.{length, replicate, length-append, length-replicate}
use Rattle.cells.proofs.Alike.{and_parts}
use Rattle.number.specs.Number.{figure, figures, value}

pub figure_range : (c : ℕ) → figure c ≡ true → (48 ≤ c) × (c ≤ 57)
unfolding figure
figure_range c h = let k = and_parts _ _ h in (leb-true 48 c k.0, leb-true c 57 k.1)

-- a first digit, and those after it
pub figures_parts : (c : ℕ) (s : List ℕ) → figures (c ∷ s) ≡ true → (48 ≤ c) × (c ≤ 57) × (figures s ≡ true)
unfolding figures
figures_parts c s h = let k = and_parts _ _ h in let r = figure_range c k.0 in (r.0, r.1, k.1)

-- i digits, and one more
pub one_more : (m i c : ℕ) → m < 10 ^ i → c ≤ 57 → m * 10 + (c - 48) < 10 ^ (i + 1)
one_more m i c h l = rw (add-one, pow-suc) (omega arith)

-- and at most k of them
pub at_most : (k m i : ℕ) → m < 10 ^ i → i ≤ k → m < 10 ^ k
at_most k m i h l = lt_of_lt_of_le h (pow-le-pow_right (omega arith) l)

pub value_append : (n : ℕ) (a b : List ℕ) → value n (a ++ b) ≡ value (value n a) b
unfolding value
value_append n [] b = refl
value_append n (c ∷ a) b = value_append (n * 10 + (c - 48)) a b

-- digits only add to a number,
pub least : (n : ℕ) (s : List ℕ) → n ≤ value n s
unfolding value
least n [] = omega arith
least n (c ∷ s) = let h : n * 10 + (c - 48) ≤ value (n * 10 + (c - 48)) s = least (n * 10 + (c - 48)) s in omega arith

-- each of them a place,
pub large : (k n : ℕ) (s : List ℕ) → k ≤ length s → n * 10 ^ k ≤ value n s
unfolding value
large zero n s h = let l : n ≤ value n s = least n s in omega arith
large (suc k) n [] h = absurd (omega arith)
large (suc k) n (c ∷ s) h =
    let l : (n * 10 + (c - 48)) * 10 ^ k ≤ value (n * 10 + (c - 48)) s = large k (n * 10 + (c - 48)) s (omega arith) in
    let m : n * 10 * 10 ^ k ≤ (n * 10 + (c - 48)) * 10 ^ k = mul-le-mul_right (10 ^ k) (omega arith) in
    rw pow-suc (omega arith)

-- and no more than the next number with as many 0s after it.
pub few : (k n : ℕ) (s : List ℕ) → figures s ≡ true → length s ≤ k → value n s < (n + 1) * 10 ^ k
unfolding value
few k n [] h l = let p : n + 1 ≤ (n + 1) * 10 ^ k = le-mul_of_pos_right (n + 1) (one-le-pow k 10 (omega arith)) in omega arith
few zero n (c ∷ s) h l = absurd (omega arith)
few (suc k) n (c ∷ s) h l =
    let f = figures_parts c s h in
    let r : value (n * 10 + (c - 48)) s < (n * 10 + (c - 48) + 1) * 10 ^ k = few k (n * 10 + (c - 48)) s f.2 (omega arith) in
    let m : (n * 10 + (c - 48) + 1) * 10 ^ k ≤ ((n + 1) * 10) * 10 ^ k = mul-le-mul_right (10 ^ k) (omega arith) in
    rw pow-suc (omega arith)

-- digits with 0s after them, as many as make k
abbrev pub padded : ℕ → List ℕ → List ℕ
padded k t = t ++ replicate (k - length t) 48

pub figures_zeros : (t : List ℕ) (k : ℕ) → figures t ≡ true → figures (t ++ replicate k 48) ≡ true
unfolding figures figure
figures_zeros [] zero h = refl
figures_zeros [] (suc k) h = figures_zeros [] k h
figures_zeros (c ∷ t) k h = let p = and_parts (figure c) (figures t) h in rw p.0 (figures_zeros t k p.1)

pub filled : (n k : ℕ) (t : List ℕ) → figures t ≡ true → length t ≤ k → value n (padded k t) < (n + 1) * 10 ^ k
filled n k t h l =
    few k n (padded k t) (figures_zeros t (k - length t) h) (simp (length-append, length-replicate) (omega arith))
