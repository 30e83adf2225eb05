-- The text of a date, from the answer that has it.
-- Assumes nothing.
use Rattle.std.specs.Prelude.{◌≡◌, ℕ, List, length, eqb, Option, Some, None}
use Rattle.std.proofs.Common.{sym, ◌∙◌, arith}
use borrow.Author.Tests.{eqb-true, eqb-false}
use Rattle.cells.proofs.Split.{split}
use Rattle.date.specs.Print.{text, printed}
use Rattle.date.specs.declared.Text.{Text}

-- there is one: it has characters
pub some : (s : List ℕ) (x : Text) → printed s ≡ Some x → (x ≡ text s) × (length s ≡ 0 → ⊥)
some s x h =
    split (eqb (length s) 0)
    (λ z. absurd (let k : ◌≡◌ {A = Option Text} None (Some x) = rw z at h in let y : ◌≡◌ {A = ℕ} 0 1 = cc in omega arith))
    (λ z. let k : ◌≡◌ {A = Option Text} (Some (text s)) (Some x) = rw z at h in (cc, eqb-false _ _ z))

-- there is none
pub none : (s : List ℕ) → printed s ≡ None → length s ≡ 0
none s h =
    split (eqb (length s) 0) (λ z. eqb-true _ _ z)
    (λ z. absurd (let k : ◌≡◌ {A = Option Text} (Some (text s)) None = rw z at h in let y : ◌≡◌ {A = ℕ} 0 1 = cc in omega arith))
