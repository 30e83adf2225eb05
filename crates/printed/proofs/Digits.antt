-- How many digits a number has at most, and the digits written from the last to the first: what the loops need.
-- Assumes nothing.
use Prim.Native.Nat.{ℕ, zero, suc, ◌+◌, ◌-◌, ◌/◌, ◌%◌, ◌*◌, ◌^◌, ◌<◌, ◌≤◌}
use mathlib.Core.Path.{◌≡◌, refl, sym}
use mathlib.Core.List.{List, [], ◌∷◌, ◌++◌}
use native.Mathlib.Nat.{pow-suc}
use native.Mathlib.Omega.{arith}
use lib.Dec.{eqb}
use lib.ListN.{length, set, drop, length-append}
use lib.Seq.{append_snoc}
use Rattle.cells.proofs.Split.{split}
use Rattle.number.specs.Print.{digits, print_number}
use Rattle.laid.proofs.Numerals.{lasts}

-- ---- how many
few : (j k n : ℕ) → n < 10 ^ k → length (digits j n) ≤ k
unfolding digits
few zero k n h = omega arith
few (suc j) zero n h = let e : n ≡ 0 = omega arith in rw e (omega arith)
few (suc j) (suc k) n h =
    split (eqb n 0) (λ e. rw e (omega arith))
    (λ e. let p : n < 10 ^ k * 10 = rw pow-suc at h in
    let l : length (digits j (n / 10)) ≤ k = few j k (n / 10) (omega arith) in
    rw e (simp length-append (omega arith)))

pub width_most : (k n : ℕ) → 1 ≤ k → n < 10 ^ k → length (print_number n) ≤ k
unfolding print_number
width_most k n h l = split (eqb n 0) (λ e. rw e h) (λ e. rw e (few n k n l))

-- ---- from the last to the first
drop_set : (k c : ℕ) (d : List ℕ) → k < length d → drop k (set d k c) ≡ c ∷ drop (suc k) d
drop_set k c [] h = absurd (omega arith)
drop_set zero c (x ∷ d) h = refl
drop_set (suc k) c (x ∷ d) h = drop_set k c d (omega arith)

-- one digit more, before those that are written
pub one_more : (d : List ℕ) (at left : ℕ) → 0 < at → at ≤ length d →
    lasts (at - 1) (left / 10) ++ drop (at - 1) (set d (at - 1) (48 + left % 10)) ≡ lasts at left ++ drop at d
unfolding lasts
one_more d zero left h l = absurd (omega arith)
one_more d (suc k) left h l =
    let e : suc k - 1 ≡ k = omega arith in
    rw (e, drop_set k (48 + left % 10) d (omega arith)) (sym (append_snoc (lasts k (left / 10)) (48 + left % 10) (drop (suc k) d)))

-- none before them
pub no_more : (d : List ℕ) (at left : ℕ) → at ≡ 0 → lasts at left ++ drop at d ≡ d
unfolding lasts
no_more d at left h = rw h
