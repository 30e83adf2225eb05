-- What a record's number is told, from its answer.
-- Assumes nothing.
use Rattle.std.specs.Prelude.{◌≡◌, ℕ, ⊤, eqb, Result, Ok, Err}
use Rattle.std.proofs.Common.{sym, ◌∙◌, arith}
use borrow.Author.Tests.{eqb-true, eqb-false}
use Rattle.cells.proofs.Split.{split}
use Rattle.order.specs.Next.{standing}

-- refused: it is told that number, which is not 0
pub refused_by : (r : Result ⊤ ℕ) (n : ℕ) → r ≡ standing n → (m : ℕ) → r ≡ Err m → (m ≡ n) × (m ≡ 0 → ⊥)
refused_by r n e m h =
    split (eqb n 0)
    (λ z. absurd (let k : ◌≡◌ {A = Result ⊤ ℕ} (Ok tt) (Err m) = sym (rw z at e) ∙ h in let y : ◌≡◌ {A = ℕ} 0 1 = cc in omega arith))
    (λ z. let k : ◌≡◌ {A = Result ⊤ ℕ} (Err n) (Err m) = sym (rw z at e) ∙ h in let i : n ≡ m = cc in (sym i, λ y. eqb-false _ _ z (i ∙ y)))

-- not refused: it is told 0
pub stands_by : (r : Result ⊤ ℕ) (n : ℕ) → r ≡ standing n → ((m : ℕ) → r ≡ Err m → ⊥) → n ≡ 0
stands_by r n e h = split (eqb n 0) (λ z. eqb-true _ _ z) (λ z. absurd (h n (rw z at e)))
