-- What holds of the arrays that a call leaves.
-- Assumes nothing.
use Prim.Native.Nat.{ℕ}
use mathlib.Core.Path.{◌≡◌, refl, sym, ap, ◌∙◌}
use native.Mathlib.Omega.{arith}
use mathlib.Core.List.{List, [], ◌∷◌}
use borrow.Author.Tests.{eq-eqb, ne_eqb}
use Rattle.cells.specs.Test.{Answer, took, refused}
use Rattle.std.specs.Prelude.{Result, Ok, Err}
use Rattle.cells.specs.Writing.{Writes as Writer}
use Rattle.cells.specs.declared.Fault.{Fault}
use Rattle.days.specs.Run.{Run, told_run}
use Rattle.days.specs.declared.DaySet.{DaySet}
use Rattle.days.specs.declared.Halt.{Halt}
use Rattle.plain.specs.Held.{unless0}
use Rattle.code_calls.specs.Calls.{Reads, Writes, ReadsRun}

-- A code that was read: one that is taken is told as its numbers,
module _ {A : Type 0} {numbers_of : A → List ℕ} {answer : Answer A} (before : List ℕ) where
  pub reads_taken : {a : A} {after : List ℕ} → answer ≡ took a → after ≡ numbers_of a → Reads A numbers_of answer before 0 0 after
  reads_taken h e = record { returns = rw h; places = rw h; leaves = rw h e }

  -- and a refusal leaves the array as it was.
  pub reads_refused : {n p : ℕ} → answer ≡ refused n p → Reads A numbers_of answer before n p before
  reads_refused h = record { returns = rw h; places = rw h; leaves = rw h }

-- A code that was written, put where it is lent: what the writer promises holds of the array,
module _ {A : Type 0} {read : List ℕ → Answer A} {x y : A} {r : Result (List ℕ) Fault} (e : y ≡ x) (w : Writer A read y r) (before : List ℕ) where
  pub written : (code : List ℕ) → r ≡ Ok code → Writes A read before x 0 code
  written code h = record { reads = λ z. w.reads code h ∙ ap took e; refuses = λ z. absurd (z refl) }

  -- which a refusal leaves as it was.
  pub unwritten : (f : Fault) → r ≡ Err f → Writes A read before x f.number before
  unwritten f h =
      let n = w.refuses f h in
      record {
        reads = λ z. absurd (let k : 35 ≡ 0 = sym (ap (λ (g : Fault). g.number) n.0) ∙ z in omega arith);
        refuses = λ z. (ap (λ (g : Fault). g.number) n.0, refl, λ s k. n.1 s (k ∙ ap took (sym e)));
      }

-- A run that was read: its days go into the masks,
module _ (run : Run) (told : Result DaySet Halt) (e : told_run told ≡ run) (before : List ℕ) where
  pub run_taken : (d : DaySet) → told ≡ Ok d → ReadsRun run before 0 (0 ∷ 0 ∷ []) d.cells
  unfolding unless0
  run_taken d h = rw (← e, h) (record { returns = refl; refuses = refl; leaves = refl })

  -- and a refusal leaves them as they were.
  pub run_refused : (h : Halt) → told ≡ Err h → (h.number ≡ 0 → ⊥) → ReadsRun run before h.number (h.place ∷ h.code ∷ []) before
  unfolding unless0
  run_refused h k z = rw (← e, k) (record { returns = refl; refuses = refl; leaves = rw (ne_eqb h.number 0 z) refl })
