-- Two answers of a call that meet its statement are equal, and what was read is written again. The statements of the calls that are not named
-- here give each answer as a function of what is lent.
-- Assumes nothing.
use Prim.Native.Nat.{ℕ}
use mathlib.Core.Path.{◌≡◌, ◌∙◌, sym, ap}
use mathlib.Core.List.{List}
use borrow.Author.Tests.{eqb-true, eqb-false}
use lib.Dec.{eqb}
use Rattle.cells.specs.Test.{Answer, took}
use Rattle.cells.proofs.Split.{split}
use Rattle.usage.specs.Usage.{read_usage}
use Rattle.usage.specs.declared.Instruction.{Instruction}
use Rattle.usage_writer.specs.Print.{raw as raw_usage}
use Rattle.usage_writer.proofs.Laws.{back as usage_back, one_code as one_usage_code}
use Rattle.supplement.specs.Supplement.{read_supplement}
use Rattle.supplement.specs.declared.Supplement.{Supplement}
use Rattle.supplement_writer.specs.Print.{raw as raw_supplement}
use Rattle.supplement_writer.proofs.Laws.{back as supplement_back, one_code as one_supplement_code}
use Rattle.days_writer.specs.Set.{said}
use Rattle.days_writer.proofs.Laws.{one_written}
use Rattle.plain.specs.Codes.{usage_numbers, instruction_of, supplement_numbers, supplement_of}
use Rattle.plain.proofs.Read.{usage_held, supplement_held}
use Rattle.code_calls.specs.Answers.{number, or_count}
use Rattle.code_calls.specs.Calls.{Writes, TellsSet}
use Rattle.std.specs.Prelude.{Result, ℕ}
use Rattle.cells.specs.declared.Fault.{Fault}

-- two answers to writing a code that meet its statement are equal, once for both kinds of code
module _ (A : Type 0) (read : List ℕ → Answer A) (before : List ℕ) (raw : A → List ℕ) (back : (s : List ℕ) (x : A) → read s ≡ took x → raw x ≡ s) where
  one_array : (x : A) (n m : ℕ) (c d : List ℕ) → Writes A read before x n c → Writes A read before x m d → (n ≡ m) × (c ≡ d)
  one_array x n m c d v w =
      split (eqb n 0)
      (λ a. split (eqb m 0)
      (λ b. (eqb-true n 0 a ∙ sym (eqb-true m 0 b), sym (back c x (v.reads (eqb-true n 0 a))) ∙ back d x (w.reads (eqb-true m 0 b))))
      (λ b. absurd ((w.refuses (eqb-false m 0 b)).2 c (v.reads (eqb-true n 0 a)))))
      (λ a. split (eqb m 0)
      (λ b. absurd ((v.refuses (eqb-false n 0 a)).2 d (w.reads (eqb-true m 0 b))))
      (λ b. let p = v.refuses (eqb-false n 0 a) in
      let q = w.refuses (eqb-false m 0 b) in
      (p.0 ∙ sym q.0, p.1 ∙ sym q.1)))

-- writing a usage code
pub one_usage : (before : List ℕ) (i : Instruction) (n m : ℕ) (c d : List ℕ) →
    Writes Instruction read_usage before i n c → Writes Instruction read_usage before i m d → (n ≡ m) × (c ≡ d)
one_usage before = one_array Instruction read_usage before raw_usage usage_back

-- writing a supplementary code
pub one_supplement : (before : List ℕ) (x : Supplement) (n m : ℕ) (c d : List ℕ) →
    Writes Supplement read_supplement before x n c → Writes Supplement read_supplement before x m d → (n ≡ m) × (c ≡ d)
one_supplement before = one_array Supplement read_supplement before raw_supplement supplement_back

-- writing the run for a set
pub one_set : (issue : ℕ) (cells before a b : List ℕ) (n m counted k l : ℕ) →
    TellsSet issue cells before a n counted k → TellsSet issue cells before b m counted l → (a ≡ b) × (n ≡ m) × (k ≡ l)
one_set issue cells before a b n m counted k l p q =
    let e = one_written issue cells before a b p.answer q.answer p.writes q.writes in (
      e.0,
      p.returns ∙ ap (λ (w : Result ℕ Fault). number (said w)) e.1 ∙ sym q.returns,
      p.counts ∙ ap (λ (w : Result ℕ Fault). or_count (said w) counted) e.1 ∙ sym q.counts,
    )

-- a code that was read, handed to the writer as what it was read as, is written as the code
again : (A : Type 0) (read : List ℕ → Answer A) → ((s t : List ℕ) (a : A) → read s ≡ took a → read t ≡ took a → s ≡ t) →
    (s before code : List ℕ) (a b : A) (n : ℕ) → b ≡ a → read s ≡ took a → Writes A read before b n code → (n ≡ 0) × (code ≡ s)
again A read one s before code a b n e h w =
    split (eqb n 0)
    (λ z. (eqb-true n 0 z, one code s a (w.reads (eqb-true n 0 z) ∙ ap took e) h))
    (λ z. absurd ((w.refuses (eqb-false n 0 z)).2 s (h ∙ ap took (sym e))))

-- a usage code that was read: its numbers, handed to the writer, are written as the code
pub usage_again : (s before code : List ℕ) (i : Instruction) (n : ℕ) → read_usage s ≡ took i →
    Writes Instruction read_usage before (instruction_of (usage_numbers i)) n code → (n ≡ 0) × (code ≡ s)
usage_again s before code i n h = again Instruction read_usage one_usage_code s before code i _ n (usage_held s i h) h

-- the same of a supplementary code
pub supplement_again : (s before code : List ℕ) (x : Supplement) (n : ℕ) → read_supplement s ≡ took x →
    Writes Supplement read_supplement before (supplement_of (supplement_numbers x)) n code → (n ≡ 0) × (code ≡ s)
supplement_again s before code x n h = again Supplement read_supplement one_supplement_code s before code x _ n (supplement_held s x h) h
