-- The field of a record that a code may read as: once for every kind of code whose reading has one code for a record.
-- Assumes nothing.
use Prim.Native.Nat.{ℕ}
use mathlib.Core.Path.{◌≡◌, refl}
use mathlib.Core.Bool.{Bool, true, false, cond}
use mathlib.Core.List.{List}
use native.Mathlib.Omega.{arith}
use borrow.Author.Tests.{eqb-true}
use lib.Dec.{eqb}
use lib.ListN.{length}
use Rattle.cells.proofs.Split.{split}
use Rattle.std.specs.Prelude.{Result, Ok, Err}
use Rattle.cells.specs.Test.{Answer, took, refused, fault}
use Rattle.cells.specs.declared.Fault.{Fault}
use Rattle.cells.specs.Writing.{Writes}
use Rattle.text.specs.Lent.{no_field}

-- a reading that takes so many characters
pub long : {A : Type 0} (n : ℕ) (s : List ℕ) (a : Answer A) (x : A) → cond (eqb (length s) n) a (refused 1 0) ≡ took x → length s ≡ n
long n s a x h =
    split (eqb (length s) n) (λ e. eqb-true (length s) n e)
    (λ e. absurd (let k = simp e at h in let z : ◌≡◌ {A = ℕ} 0 1 = cc in omega arith))

module _ (A : Type 0) (read : List ℕ → Answer A) (raw : A → List ℕ) (back : (s : List ℕ) (x : A) → read s ≡ took x → raw x ≡ s) where
  -- what is written where what is printed reads as the record
  abbrev pub answer : A → Bool → Result (List ℕ) Fault
  answer x ok = cond ok (Ok (raw x)) (Err (fault 35 0))

  pub held : (s : List ℕ) (x : A) (ok : Bool) → Writes A read x (answer x ok) → read s ≡ took x → cond ok (raw x) no_field ≡ s
  held s x true w h = back s x h
  held s x false w h = absurd ((w.refuses _ refl).1 s h)

  pub none : (x : A) (ok : Bool) → Writes A read x (answer x ok) → ((s : List ℕ) → read s ≡ took x → ⊥) → cond ok (raw x) no_field ≡ no_field
  none x true w h = absurd (h (raw x) (w.reads _ refl))
  none x false w h = refl

  pub reads : (x y : A) (ok : Bool) → Writes A read x (answer x ok) → (read no_field ≡ took y → ⊥) → read (cond ok (raw x) no_field) ≡ took y → y ≡ x
  reads x y true w z h = let k : read (raw x) ≡ took x = w.reads _ refl in cc
  reads x y false w z h = absurd (z h)
