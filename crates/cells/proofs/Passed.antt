-- What a test's answer says of its fault.
-- Assumes nothing.
use Rattle.std.specs.Prelude.{◌≡◌, ℕ, ⊤, eqb, Result, Ok, Err}
use Rattle.std.proofs.Common.{sym, ap, ◌∙◌, arith}
use borrow.Author.Tests.{eqb-true, eqb-false}
use Rattle.cells.proofs.Split.{split}
use Rattle.cells.specs.declared.Fault.{Fault}
use Rattle.cells.specs.Test.{passes}

-- refused: it is that fault, and there is one
pub refused_by : (f e : Fault) (r : Result ⊤ Fault) → r ≡ passes f → r ≡ Err e → (f ≡ e) × (f.number ≡ 0 → ⊥)
refused_by f e r h k =
    split (eqb f.number 0)
    (λ z. absurd (let q : ◌≡◌ {A = Result ⊤ Fault} (Ok tt) (Err e) = sym (rw z at h) ∙ k in let y : ◌≡◌ {A = ℕ} 0 1 = cc in omega arith))
    (λ z. let q : ◌≡◌ {A = Result ⊤ Fault} (Err f) (Err e) = sym (rw z at h) ∙ k in (cc, eqb-false _ _ z))

-- not refused: there is no fault
pub passed_by : (f : Fault) (r : Result ⊤ Fault) → r ≡ passes f → ((e : Fault) → r ≡ Err e → ⊥) → f.number ≡ 0
passed_by f r h k = split (eqb f.number 0) (λ z. eqb-true _ _ z) (λ z. absurd (k f (rw z at h)))
