-- What a writer of codes promises, whatever the code: "35: code record that no code reads as".
-- Assumes nothing.
use Rattle.std.specs.Prelude.{ℕ, ◌≡◌, List, Err, Ok, Result}
use Rattle.cells.specs.Test.{Answer, took, fault}
use Rattle.cells.specs.declared.Fault.{Fault}

-- Of a record of the type A that `read` reads: a code, which reads as the record; or 35 at 0 (ours), and no code reads as the record.
pub record Writes (A : Type 0) (read : List ℕ → Answer A) (x : A) (w : Result (List ℕ) Fault) : Type 0 where
  pub reads : (code : List ℕ) → w ≡ Ok code → read code ≡ took x
  pub refuses : (f : Fault) → w ≡ Err f → (f ≡ fault 35 0) × ((s : List ℕ) → read s ≡ took x → ⊥)
