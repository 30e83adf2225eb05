-- A writer that prints, reads back and compares keeps the writer's promise, and two answers that keep it are equal: once for every kind of
-- code whose reading has one code for a record.
-- Assumes nothing.
use Prim.Native.Nat.{ℕ}
use mathlib.Core.Path.{◌≡◌, refl, ◌∙◌, sym, ap}
use mathlib.Core.List.{List}
use Rattle.std.specs.Prelude.{Err, Ok, Result}
use Rattle.cells.specs.Test.{Answer, took, fault}
use Rattle.cells.specs.Writing.{Writes}
use Rattle.cells.specs.declared.Fault.{Fault}

module _ (A : Type 0) (read : List ℕ → Answer A) (raw : A → List ℕ) (back : (s : List ℕ) (x : A) → read s ≡ took x → raw x ≡ s) where
  -- what is printed reads as the record, or does not
  pub writes : (x : A) → read (raw x) ≡ took x → Writes A read x (Ok (raw x))
  writes x h = record { reads = λ s e. let k : raw x ≡ s = cc in ap read (sym k) ∙ h; refuses = λ f e. cc }

  pub refuses : (x : A) → (read (raw x) ≡ took x → ⊥) → Writes A read x (Err (fault 35 0))
  refuses x h = record { reads = λ s e. cc; refuses = λ f e. (let k : fault 35 0 ≡ f = cc in sym k, λ s g. h (ap read (back s x g) ∙ g)) }

  pub one_written : (x : A) (v w : Result (List ℕ) Fault) → Writes A read x v → Writes A read x w → v ≡ w
  one_written x (Ok c) (Ok d) v w = ap Ok (sym (back c x (v.reads c refl)) ∙ back d x (w.reads d refl))
  one_written x (Ok c) (Err g) v w = absurd ((w.refuses g refl).1 c (v.reads c refl))
  one_written x (Err f) (Ok d) v w = absurd ((v.refuses f refl).1 d (w.reads d refl))
  one_written x (Err f) (Err g) v w = ap Err ((v.refuses f refl).0 ∙ sym (w.refuses g refl).0)
