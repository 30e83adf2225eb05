-- Comparing two slices is the rule of comparing two texts.
-- Assumes nothing.
use Rattle.std.proofs.Common.{◌≡◌, refl, sym, ap, ap₂, ℕ, Bool, ◌&&◌, List, [], ◌∷◌, eqb}
use borrow.Author.Tests.{eq-eqb, ne_eqb, eqb-true, eqb-false}
use lib.Pointwise.{pointwise}
use Rattle.cells.specs.Same.{eqs}
use Rattle.cells.proofs.Split.{split}

pub same_eqs : (xs ys : List ℕ) → pointwise eqb xs ys ≡ eqs xs ys
same_eqs [] [] = refl
same_eqs [] (y ∷ ys) = refl
same_eqs (x ∷ xs) [] = refl
same_eqs (x ∷ xs) (y ∷ ys) = ap (λ (b : Bool). eqb x y && b) (same_eqs xs ys)

-- The other way round, as `starts_with` has its two.
turned : (x y : ℕ) → eqb y x ≡ eqb x y
turned x y = split (eqb x y) (λ e. rw e (eq-eqb y x (sym (eqb-true x y e)))) (λ e. rw e (ne_eqb y x (λ q. eqb-false x y e (sym q))))

pub eqs_turned : (xs ys : List ℕ) → pointwise eqb ys xs ≡ eqs xs ys
eqs_turned [] [] = refl
eqs_turned [] (y ∷ ys) = refl
eqs_turned (x ∷ xs) [] = refl
eqs_turned (x ∷ xs) (y ∷ ys) = ap₂ (λ (a b : Bool). a && b) (turned x y) (eqs_turned xs ys)
