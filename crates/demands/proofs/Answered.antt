-- Writing a code and writing a set of days have an answer for everything handed over, and one alone.
-- Assumes nothing.
use Prim.Native.Nat.{ℕ, ◌/◌}
use mathlib.Core.Path.{◌≡◌, refl, sym, ap₂}
use mathlib.Core.Bool.{true}
use mathlib.Core.List.{List, ◌++◌}
use native.Mathlib.Omega.{arith}
use borrow.Author.Tests.{leb-true, leb-false}
use lib.Dec.{leb}
use lib.ListN.{length, drop}
use Rattle.cells.specs.Test.{fault, Answer, took, refused}
use Rattle.cells.proofs.Split.{split}
use Rattle.usage.specs.Usage as usage
use Rattle.usage.specs.declared.Instruction.{Instruction}
use Rattle.usage_writer.specs.Writes.{WritesUsage}
use Rattle.usage_writer.specs.Print as usage_code
use Rattle.usage_writer.proofs.Writing as usage_writer
use Rattle.usage_writer.proofs.Laws as usage_laws
use Rattle.supplement.specs.Supplement as supplement
use Rattle.supplement.specs.declared.Supplement.{Supplement}
use Rattle.supplement_writer.specs.Print as supplement_code
use Rattle.supplement_writer.specs.Writes.{WritesSupplement}
use Rattle.supplement_writer.proofs.Writing as supplement_writer
use Rattle.supplement_writer.proofs.Laws as supplement_laws
use Rattle.order.proofs.Bools.{clash}
use Rattle.days.specs.Run.{takes, a_month, read_run}
use Rattle.days_writer.specs.Set.{writable, WritesSet}
use Rattle.days_writer.specs.Code.Print.{printed}
use Rattle.days_writer.proofs.Laws as days
use Rattle.demands.specs.One.{One}
use Rattle.std.specs.Prelude.{Err, Ok, Result, ℕ}
use Rattle.cells.specs.declared.Fault.{Fault}

-- An instruction,
pub usage_answered : (i : Instruction) → One (Result (List ℕ) Fault) (WritesUsage i)
usage_answered i = by (usage.read_usage (usage_code.raw i)) refl
  where
    one : (w : Result (List ℕ) Fault) → WritesUsage i w → One (Result (List ℕ) Fault) (WritesUsage i)
    one w k = record { answer = w; meets = k; only = λ v h. usage_laws.one_written i v w h k }

    by : (a : Answer Instruction) → usage.read_usage (usage_code.raw i) ≡ a → One (Result (List ℕ) Fault) (WritesUsage i)
    by (took j) e = one _ (usage_writer.answered i (Ok j) (sym e))
    by (refused n p) e = one _ (usage_writer.answered i (Err (fault n p)) (sym e))

-- and a supplement.
pub supplement_answered : (x : Supplement) → One (Result (List ℕ) Fault) (WritesSupplement x)
supplement_answered x = by (supplement.read_supplement (supplement_code.raw x)) refl
  where
    one : (w : Result (List ℕ) Fault) → WritesSupplement x w → One (Result (List ℕ) Fault) (WritesSupplement x)
    one w k = record { answer = w; meets = k; only = λ v h. supplement_laws.one_written x v w h k }

    by : (a : Answer Supplement) → supplement.read_supplement (supplement_code.raw x) ≡ a → One (Result (List ℕ) Fault) (WritesSupplement x)
    by (took y) e = one _ (supplement_writer.answered x (Ok y) (sym e))
    by (refused n p) e = one _ (supplement_writer.answered x (Err (fault n p)) (sym e))

-- ---- a set of days
module _ (issue : ℕ) (cells before : List ℕ) where
  -- an answer, with the buffer after it
  abbrev pub Promise : List ℕ × Result ℕ Fault → Type 0
  Promise a = WritesSet issue cells before a.0 a.1

  one : (after : List ℕ) (w : Result ℕ Fault) → WritesSet issue cells before after w → One (List ℕ × Result ℕ Fault) Promise
  one after w k =
      record {
        answer = (after, w);
        meets = k;
        only = λ v h. let e = days.one_written issue cells before v.0 after v.1 w h k in ap₂ (λ (x : List ℕ) (y : Result ℕ Fault). (x, y)) e.0 e.1;
      }

  -- the run for a set that can be written
  run_writes : (r : List ℕ) → read_run issue r ≡ takes cells → a_month issue ≡ true → writable cells ≡ true → One (List ℕ × Result ℕ Fault) Promise
  run_writes r h m c =
      split (leb (length r) (length before))
      (λ a. one (r ++ drop (length r) before) (Ok (length r / 8))
      (record {
        no_month = λ f. clash m f;
        cannot = λ t f. clash c f;
        can = λ t u. record { run = r; reads = h; short = λ l. absurd (omega (arith, leb-true (length r) (length before) a)); fits = λ l. (refl, refl) };
      }))
      (λ a. one before (Err (fault 33 0))
      (record {
        no_month = λ f. clash m f;
        cannot = λ t f. clash c f;
        can = λ t u. record { run = r; reads = h; short = λ l. (refl, refl); fits = λ l. absurd (omega (arith, leb-false (length r) (length before) a)) };
      }))

  -- A set has thirteen cells.
  pub set_answered : length cells ≡ 13 → One (List ℕ × Result ℕ Fault) Promise
  set_answered l =
      split (a_month issue)
      (λ m. split (writable cells) (λ c. run_writes (printed issue cells) (days.can_be_written issue cells m l c) m c)
      (λ c. one before (Err (fault 11 0))
      (record { no_month = λ f. clash m f; cannot = λ t f. (refl, refl); can = λ t u. clash u c })))
      (λ m. one before (Err (fault 10 0))
      (record { no_month = λ f. (refl, refl); cannot = λ t f. clash t m; can = λ t u. clash t m }))
