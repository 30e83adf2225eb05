-- Two records whose numbers compare as equal are made of the same numbers; the comparison of two codes has one answer.
-- Assumes nothing.
use Prim.Native.Nat.{ℕ}
use mathlib.Core.Path.{◌≡◌, refl, sym}
use mathlib.Core.Bool.{Bool, true, false}
use mathlib.Core.List.{List, [], ◌∷◌}
use native.Mathlib.Omega.{arith}
use borrow.Author.Tests.{eq-eqb, eqb-true}
use lib.Dec.{eqb}
use Rattle.cells.specs.Same.{eqs, Compares}
use Rattle.cells.proofs.Alike.{and_left, and_right}

-- a number is itself: what a derived `==` asks of each field
pub itself : (n : ℕ) → eqb n n ≡ true
itself n = eq-eqb n n refl

pub eqs_eq : (xs ys : List ℕ) → eqs xs ys ≡ true → xs ≡ ys
eqs_eq [] [] h = refl
eqs_eq [] (y ∷ ys) h = absurd (let z : ◌≡◌ {A = ℕ} 0 1 = cc in omega arith)
eqs_eq (x ∷ xs) [] h = absurd (let z : ◌≡◌ {A = ℕ} 0 1 = cc in omega arith)
eqs_eq (x ∷ xs) (y ∷ ys) h =
    let p = eqb-true x y (and_left _ _ h) in
    let q = eqs_eq xs ys (and_right (eqb x y) _ h) in
    λ j. p j ∷ q j

pub eqs_self : (xs : List ℕ) → eqs xs xs ≡ true
eqs_self [] = refl
eqs_self (x ∷ xs) = simp (eq-eqb x x refl) (eqs_self xs)

pub one_answer : (a b : List ℕ) (r q : Bool) → Compares a b r → Compares a b q → r ≡ q
one_answer a b true q v w = sym (w.told (v.one refl))
one_answer a b false true v w = v.told (w.one refl)
one_answer a b false false v w = refl
