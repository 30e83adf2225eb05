-- A row of characters is printed as it was read: by one computed test of how each of them is read and printed.
-- Assumes nothing.
use Prim.Native.Nat.{ℕ, zero, suc, ◌+◌, ◌<◌}
use mathlib.Core.Path.{◌≡◌, refl, ◌∙◌, sym, ap}
use mathlib.Core.Bool.{Bool, true, ◌&&◌}
use mathlib.Core.List.{List, [], ◌∷◌}
use native.Mathlib.Omega.{arith}
use native.Mathlib.Numerals.{add-one}
use lib.ListN.{length, get_or, drop, drop_of_length-le}
use lib.Seq.{drop-cons}
use Rattle.cells.specs.Text.{among}
use Rattle.cells.specs.Cells.{Cell}
use Rattle.cells.proofs.Alike.{and_left, and_right, alike, each}
use Rattle.cells.proofs.Back.{set_of, set_at}

-- the k elements of a list from the ith on
abbrev pub part : ℕ → ℕ → List ℕ → List ℕ
part zero i s = []
part (suc k) i s = get_or s i 0 ∷ part k (i + 1) s

rest : (k i : ℕ) (s : List ℕ) → length s ≡ i + k → part k i s ≡ drop i s
rest zero i s l = sym (drop_of_length-le s {i = i} (omega arith))
rest (suc k) i s l =
    ap (λ (t : List ℕ). get_or s i 0 ∷ t) (rest k (i + 1) s (omega arith)) ∙
    let h : i < length s = omega arith in
    rw (add-one, ← drop-cons s i 0 h)

pub whole : (k : ℕ) (s : List ℕ) → length s ≡ k → part k 0 s ≡ s
whole k s l = rest k 0 s (omega arith)

-- the characters from the ith on, each read and printed in its own way
abbrev pub prints : List (ℕ → ℕ) → ℕ → List ℕ → List ℕ
prints [] i s = []
prints (f ∷ fs) i s = f (get_or s i 0) ∷ prints fs (i + 1) s

-- each character of each set comes back: computed
abbrev pub kept : List (ℕ → ℕ) → List Cell → Bool
kept [] xs = true
kept (f ∷ fs) [] = alike f (λ c. c) "0" && kept fs []
kept (f ∷ fs) (x ∷ xs) = alike f (λ c. c) (set_of x) && kept fs xs

-- characters that stand in the sets of a row
abbrev pub Stand : ℕ → List Cell → ℕ → List ℕ → Type 0
Stand k xs i s = (j : ℕ) → j < k → among (set_at xs j) (get_or s (i + j) 0) ≡ true

first_stands : (k i : ℕ) (xs : List Cell) (s : List ℕ) → Stand (suc k) xs i s → among (set_at xs 0) (get_or s i 0) ≡ true
first_stands k i xs s h = let e : i + 0 ≡ i = omega arith in rw e at (h 0 (omega arith))

others_stand : (k i : ℕ) (xs ys : List Cell) (s : List ℕ) → ((j : ℕ) → set_at ys (suc j) ≡ set_at xs j) → Stand (suc k) ys i s → Stand k xs (i + 1) s
others_stand k i xs ys s e h j l =
    let z : i + suc j ≡ i + 1 + j = omega arith in
    rw (e j, z) at (h (suc j) (omega arith))

pub printed : (fs : List (ℕ → ℕ)) (xs : List Cell) (i : ℕ) (s : List ℕ) → kept fs xs ≡ true → Stand (length fs) xs i s → prints fs i s ≡ part (length fs) i s
printed [] xs i s t h = refl
printed (f ∷ fs) [] i s t h =
    let a = each f (λ c. c) "0" (and_left (alike f (λ c. c) "0") _ t) (get_or s i 0) (first_stands (length fs) i [] s h) in
    let b = printed fs [] (i + 1) s (and_right (alike f (λ c. c) "0") _ t) (others_stand (length fs) i [] [] s (λ j. refl) h) in
    λ j. a j ∷ b j
printed (f ∷ fs) (x ∷ xs) i s t h =
    let a = each f (λ c. c) (set_of x) (and_left (alike f (λ c. c) (set_of x)) _ t) (get_or s i 0) (first_stands (length fs) i (x ∷ xs) s h) in
    let b = printed fs xs (i + 1) s (and_right (alike f (λ c. c) (set_of x)) _ t) (others_stand (length fs) i xs (x ∷ xs) s (λ j. refl) h) in
    λ j. a j ∷ b j
