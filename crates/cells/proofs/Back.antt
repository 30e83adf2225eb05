-- A character that passes its test is the character of what it says: one law for every set and every place.
-- Assumes nothing.
use Prim.Native.Nat.{ℕ, zero, suc, ◌+◌, ◌<◌}
use Prim.Native.Char.{code}
use Prim.Native.String.{String, [] as nil, ◌∷◌ as cons}
use mathlib.Core.Path.{◌≡◌, refl, sym}
use mathlib.Core.Bool.{Bool, true, false}
use mathlib.Core.List.{List, [], ◌∷◌, ◌++◌, append_assoc}
use native.Mathlib.Omega.{arith}
use borrow.Author.Tests.{eqb-true}
use lib.Dec.{eqb}
use lib.ListN.{get_or}
use Rattle.cells.specs.Text.{among, index, at}
use Rattle.cells.specs.Test.{Test, test, first, took, judge}
use Rattle.cells.specs.Cells.{Cell, set, rising, upto, rising_upto, tests, cells}
use Rattle.cells.proofs.Split.{split}

-- the character at a character's place in a set is that character
pub found : (x : String) (c : ℕ) → among x c ≡ true → at x (index x c) ≡ c
unfolding among index at
found nil c h = absurd (let z : ◌≡◌ {A = ℕ} 0 1 = cc in omega arith)
found (cons a x) c h =
    split (eqb c (code a)) (λ e. simp e (sym (eqb-true c (code a) e))) (λ e. simp e (found x c (simp e at h)))

-- a test that stands in a list with no fault has been passed, and so have those after it
pub passed : (b : Bool) (n p : ℕ) (ts : List Test) → (n ≡ 0 → ⊥) → (first (test n p b ∷ ts)).number ≡ 0 → (b ≡ true) × ((first ts).number ≡ 0)
unfolding first
passed true n p ts z h = (refl, h)
passed false n p ts z h = absurd (z h)

-- what is taken has no fault, and is the value that was judged
pub taken : {A : Type 0} (ts : List Test) (a b : A) → judge (first ts) a ≡ took b → ((first ts).number ≡ 0) × (a ≡ b)
taken ts a b h =
    split (eqb (first ts).number 0) (λ e. let k = simp e at h in (eqb-true _ _ e, cc))
    (λ e. absurd (let k = simp e at h in let z : ◌≡◌ {A = ℕ} 0 1 = cc in omega arith))

-- the set of the jth cell of a row
abbrev pub set_of : Cell → String
set_of (set x) = x
set_of (rising x) = x
set_of (upto l x) = x
set_of (rising_upto l x) = x

abbrev pub set_at : List Cell → ℕ → String
set_at [] j = "0"
set_at (x ∷ xs) zero = set_of x
set_at (x ∷ xs) (suc j) = set_at xs j

-- the tests of a cell with no fault: its character stands in its set
cell_in : (x : Cell) (p b c : ℕ) (ts : List Test) → (first (tests x p b c ++ ts)).number ≡ 0 → (among (set_of x) c ≡ true) × ((first ts).number ≡ 0)
cell_in (set x) p b c ts h = passed _ 5 p ts (λ z. omega arith) h
cell_in (rising x) p b c ts h = let k = passed _ 5 p _ (λ z. omega arith) h in (k.0, (passed _ 9 p ts (λ z. omega arith) k.1).1)
cell_in (upto l x) p b c ts h = let k = passed _ 5 p _ (λ z. omega arith) h in (k.0, (passed _ 8 p ts (λ z. omega arith) k.1).1)
cell_in (rising_upto l x) p b c ts h =
    let k = passed _ 5 p _ (λ z. omega arith) h in
    (k.0, (passed _ 9 p ts (λ z. omega arith) (passed _ 8 p _ (λ z. omega arith) k.1).1).1)

-- a row with no fault: every character stands in its set, and the tests after the row have no fault
pub in_sets : (k i : ℕ) (xs : List Cell) (s : List ℕ) (ts : List Test) → (first (cells k i xs s ++ ts)).number ≡ 0 →
    ((j : ℕ) → j < k → among (set_at xs j) (get_or s (i + j) 0) ≡ true) × ((first ts).number ≡ 0)
unfolding cells
in_sets zero i xs s ts h = (λ j l. absurd (omega arith), h)
in_sets (suc k) i [] s ts h =
    let a = passed (among "0" (get_or s i 0)) 6 (i + 1) (cells k (i + 1) [] s ++ ts) (λ z. omega arith) h in
    let r = in_sets k (i + 1) [] s ts a.1 in
    (more a.0 r.0, r.1)
  where
    more : among "0" (get_or s i 0) ≡ true → ((j : ℕ) → j < k → among "0" (get_or s (i + 1 + j) 0) ≡ true) → (j : ℕ) → j < suc k → among "0" (get_or s (i + j) 0) ≡ true
    more a r zero l = let e : i + 0 ≡ i = omega arith in rw e a
    more a r (suc j) l = let e : i + suc j ≡ i + 1 + j = omega arith in rw e (r j (omega arith))
in_sets (suc k) i (x ∷ xs) s ts h = go (cell_in x (i + 1) _ (get_or s i 0) (cells k (i + 1) xs s ++ ts) (rw append_assoc at h)) (λ z. in_sets k (i + 1) xs s ts z)
  where
    more : among (set_of x) (get_or s i 0) ≡ true → ((j : ℕ) → j < k → among (set_at xs j) (get_or s (i + 1 + j) 0) ≡ true) → (j : ℕ) → j < suc k → among (set_at (x ∷ xs) j) (get_or s (i + j) 0) ≡ true
    more a r zero l = let e : i + 0 ≡ i = omega arith in rw e a
    more a r (suc j) l = let e : i + suc j ≡ i + 1 + j = omega arith in rw e (r j (omega arith))

    go : (among (set_of x) (get_or s i 0) ≡ true) × ((first (cells k (i + 1) xs s ++ ts)).number ≡ 0) →
        ((first (cells k (i + 1) xs s ++ ts)).number ≡ 0 → ((j : ℕ) → j < k → among (set_at xs j) (get_or s (i + 1 + j) 0) ≡ true) × ((first ts).number ≡ 0)) →
        ((j : ℕ) → j < suc k → among (set_at (x ∷ xs) j) (get_or s (i + j) 0) ≡ true) × ((first ts).number ≡ 0)
    go a f = let r = f a.1 in (more a.0 r.0, r.1)
