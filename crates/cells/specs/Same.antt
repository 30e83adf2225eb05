-- "Written codes come back by value as sixteen-byte and eight-byte arrays and are compared character by character"; so are records, as the lists of their numbers.
-- Assumes nothing.
use Rattle.std.specs.Prelude.{ℕ, ◌≡◌, Bool, true, false, ◌&&◌, List, [], ◌∷◌, eqb}

-- Two lists have the same numbers in the same places.
abbrev pub eqs : List ℕ → List ℕ → Bool
eqs [] [] = true
eqs [] (y ∷ ys) = false
eqs (x ∷ xs) [] = false
eqs (x ∷ xs) (y ∷ ys) = eqb x y && eqs xs ys

-- What comparing two codes answers: true exactly where the characters of the one are those of the other.
pub record Compares (a b : List ℕ) (r : Bool) : Type 0 where
  pub one : r ≡ true → a ≡ b
  pub told : a ≡ b → r ≡ true
