-- The theorems of reading: every beginning of an allowed run is allowed, and a run has one answer.
-- Assumes nothing.
use Prim.Native.Nat.{ℕ, ◌%◌, ◌≤◌}
use mathlib.Core.Path.{◌≡◌, refl, sym, ap, ◌∙◌}
use mathlib.Core.Bool.{true}
use mathlib.Core.List.{List, [], ◌∷◌, ◌++◌}
use native.Mathlib.Omega.{arith}
use lib.Dec.{eqb}
use lib.ListN.{length}
use Rattle.std.specs.Prelude.{Result, Ok, Err}
use borrow.Author.Tests.{eqb-false}
use Rattle.cells.proofs.Split.{split}
use Rattle.cells.proofs.Alike.{and_left, and_right}
use Rattle.days.specs.Run.{Run, Code, follows, allowed, Stop, stop, codes_of, set_of, concluded, a_month, answers_in, read_run, answered, told_run}
use Rattle.days.specs.declared.DaySet.{DaySet}
use Rattle.days.specs.declared.Halt.{Halt}
use Rattle.days.proofs.Under.{and_intro}

-- every beginning of an allowed run is an allowed run
pub beginning : (issue : ℕ) (xs ys : List Code) → allowed issue (xs ++ ys) ≡ true → 1 ≤ length xs → allowed issue xs ≡ true
unfolding allowed
beginning issue [] ys h n = absurd (omega arith)
beginning issue (a ∷ []) ys h n = refl
beginning issue (a ∷ b ∷ xs) ys h n =
    and_intro (follows issue a b) (allowed issue (b ∷ xs)) (and_left (follows issue a b) _ h)
    (beginning issue (b ∷ xs) ys (and_right (follows issue a b) _ h) (omega arith))

-- an answer says the run
concludes : (t : Stop) (cells : List ℕ) → told_run (answered (concluded t cells)) ≡ concluded t cells
concludes t cells = split (eqb t.number 0) (λ e. simp e) (λ e. simp (e, e))

pub told : (issue : ℕ) (s : List ℕ) (r : Result DaySet Halt) → r ≡ answered (read_run issue s) → told_run r ≡ read_run issue s
unfolding read_run
told issue s r e =
    ap told_run e ∙
    split (a_month issue)
    (λ m.
    split (eqb (length s % 8) 0)
    (λ w. split (eqb (length s) 0) (λ n. simp (m, w, n)) (λ n. simp (m, w, n) (concludes (stop issue [] 1 (answers_in s)) (set_of (codes_of (answers_in s))))))
    (λ w. simp (m, w)))
    (λ m. simp m)

-- two answers to reading are equal: each is what `read_run` says
pub one_answer : (issue : ℕ) (s : List ℕ) (r q : Result DaySet Halt) → r ≡ answered (read_run issue s) → q ≡ answered (read_run issue s) → r ≡ q
one_answer issue s r q e f = e ∙ sym f

-- a refusal has a number
pub refused_number : (w : Run) (r : Result DaySet Halt) → r ≡ answered w → (h : Halt) → r ≡ Err h → h.number ≡ 0 → ⊥
refused_number w r e h k z =
    split (eqb w.number 0)
    (λ n. let q : ◌≡◌ {A = Result DaySet Halt} (Ok w.days) (Err h) = sym (rw n at e) ∙ k in let y : ◌≡◌ {A = ℕ} 0 1 = cc in omega arith)
    (λ n.
    let q : ◌≡◌ {A = Result DaySet Halt} (Err (record { number = w.number; place = w.place; code = w.code })) (Err h) = sym (rw n at e) ∙ k in
    let i : w.number ≡ h.number = cc in
    eqb-false _ _ n (i ∙ z))
