-- Codes and runs: written back as they were read, and read as they were written.
-- Assumes nothing.
use Prim.Native.Nat.{ℕ, ◌*◌, ◌/◌, ◌≤◌}
use mathlib.Core.Path.{◌≡◌, refl, ◌∙◌, sym, ap}
use mathlib.Core.List.{List, ◌++◌}
use native.Mathlib.Omega.{arith}
use borrow.Author.Tests.{eqb-true, eqb-false, leb-true, leb-false}
use lib.Dec.{eqb, leb}
use lib.ListN.{length, take, drop}
use lib.Seq.{take_at}
use Rattle.cells.specs.Test.{Answer, took}
use Rattle.cells.specs.Writing.{Writes}
use Rattle.cells.proofs.Split.{split}
use Rattle.usage.specs.Usage.{read_usage}
use Rattle.usage.specs.declared.Instruction.{Instruction}
use Rattle.usage_writer.specs.Writes.{WritesUsage}
use Rattle.usage_writer.proofs.Laws as usage
use Rattle.supplement.specs.Supplement.{read_supplement}
use Rattle.supplement.specs.declared.Supplement.{Supplement}
use Rattle.supplement_writer.specs.Writes.{WritesSupplement}
use Rattle.supplement_writer.proofs.Laws as supplement
use Rattle.days.specs.Run.{takes, a_month, read_run}
use Rattle.days_writer.specs.Set.{writable, said, WritesSet}
use Rattle.days_writer.proofs.Laws as days
use Rattle.demands.proofs.Runs.{its_month, whole_codes}
use Rattle.std.specs.Prelude.{Result, Ok, Err}
use Rattle.cells.specs.declared.Fault.{Fault}

-- ---- codes
-- a writer of codes of which no two read as one record
module _ (A : Type 0) (read : List ℕ → Answer A) (one_code : (s t : List ℕ) (x : A) → read s ≡ took x → read t ≡ took x → s ≡ t) where
  code_back : (s : List ℕ) (x : A) (w : Result (List ℕ) Fault) → read s ≡ took x → Writes A read x w → w ≡ Ok s
  code_back s x (Ok code) h k = ap Ok (one_code code s x (k.reads code refl) h)
  code_back s x (Err f) h k = absurd ((k.refuses f refl).1 s h)

-- A usage code that was read is written as it stood,
pub usage_written_back : (s : List ℕ) (i : Instruction) (w : Result (List ℕ) Fault) → read_usage s ≡ took i → WritesUsage i w → w ≡ Ok s
usage_written_back = code_back Instruction read_usage usage.one_code

-- and so is a supplementary code.
pub supplement_written_back : (s : List ℕ) (x : Supplement) (w : Result (List ℕ) Fault) → read_supplement s ≡ took x → WritesSupplement x w → w ≡ Ok s
supplement_written_back = code_back Supplement read_supplement supplement.one_code

-- ---- runs
module _ (issue : ℕ) where
  -- A run that was read is written as it stood, where there is room for it.
  pub run_written_back : (s cells before after : List ℕ) (w : Result ℕ Fault) → read_run issue s ≡ takes cells → WritesSet issue cells before after w →
      length s ≤ length before → (said w ≡ took (length s / 8)) × (after ≡ s ++ drop (length s) before)
  run_written_back s cells before after w h k l =
      let q = k.can (its_month issue s cells h) (days.only_these issue s cells h) in
      let e : q.run ≡ s = days.one_run issue q.run s cells q.reads h in
      rw e at (q.fits (omega (arith, ap length e)))

  -- What a set is written as is read as the set.
  pub run_read_back : (cells before after : List ℕ) (w : Result ℕ Fault) → WritesSet issue cells before after w → (n : ℕ) → said w ≡ took n →
      read_run issue (take (8 * n) after) ≡ takes cells
  run_read_back cells before after w k n h =
      split (a_month issue)
      (λ a. split (writable cells)
      (λ b.
      let q = k.can a b in
      split (leb (length q.run) (length before))
      (λ d.
      let u = q.fits (leb-true _ _ d) in
      let v : said w ≡ took (length q.run / 8) = u.0 in
      let m : length q.run / 8 ≡ n = cc in
      let e : length q.run ≡ 8 * n = sym (whole_codes issue q.run cells q.reads) ∙ ap (λ (j : ℕ). 8 * j) m in
      ap (read_run issue) (ap (take (8 * n)) u.1 ∙ take_at q.run (drop (length q.run) before) (8 * n) e) ∙ q.reads)
      (λ d. absurd (let u = q.short (leb-false _ _ d) in let z : ◌≡◌ {A = ℕ} 0 1 = cc in omega arith)))
      (λ b. absurd (let u = k.cannot a b in let z : ◌≡◌ {A = ℕ} 0 1 = cc in omega arith)))
      (λ a. absurd (let u = k.no_month a in let z : ◌≡◌ {A = ℕ} 0 1 = cc in omega arith))
