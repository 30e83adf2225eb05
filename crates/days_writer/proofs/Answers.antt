-- The answers of writing, branch by branch.
-- Assumes nothing.
use Prim.Native.Nat.{ℕ, ◌+◌, ◌*◌, ◌/◌, ◌≤◌, ◌<◌}
use mathlib.Core.Path.{◌≡◌, refl, ap, ◌∙◌}
use mathlib.Core.Bool.{Bool, true, false}
use mathlib.Core.List.{List, ◌++◌}
use native.Mathlib.Omega.{arith}
use lib.ListN.{length, drop}
use lib.Seq.{sets, sets-eq}
use Rattle.cells.specs.Test.{fault, took}
use Rattle.days.specs.Run.{a_month, read_run, takes}
use Rattle.days_writer.specs.Set.{writable, WritesSet}
use Rattle.days_writer.specs.Code.Print.{run_of, printed}
use Rattle.days_writer.proofs.Whole.{bytes_length}
use Rattle.days_writer.proofs.Laws.{can_be_written}
use Rattle.std.specs.Prelude.{Err, Ok}

-- a test is not both
both : {P : Type 0} (b : Bool) → b ≡ true → b ≡ false → P
both b t f = absurd (let z : ◌≡◌ {A = ℕ} 0 1 = cc in omega arith)

module _ (issue : ℕ) (cells d : List ℕ) where
  -- 10, 11, 33 with the buffer as it was, and the run written
  pub ten : a_month issue ≡ false → WritesSet issue cells d d (Err (fault 10 0))
  ten n = record { no_month = λ h. (refl, refl); cannot = λ h w. both (a_month issue) h n; can = λ h w. both (a_month issue) h n }

  module _ (m : a_month issue ≡ true) where
    pub eleven : writable cells ≡ false → WritesSet issue cells d d (Err (fault 11 0))
    eleven n = record { no_month = λ h. both (a_month issue) m h; cannot = λ h w. (refl, refl); can = λ h w. both (writable cells) w n }

    module _ (w : writable cells ≡ true) (l : length cells ≡ 13) where
      reads : read_run issue (printed issue cells) ≡ takes cells
      reads = can_be_written issue cells m l w

      pub full : length d < 8 * length (run_of issue cells) → WritesSet issue cells d d (Err (fault 33 0))
      full n =
          record {
            no_month = λ h. both (a_month issue) m h;
            cannot = λ h x. both (writable cells) w x;
            can = λ h x. record { run = printed issue cells; reads = reads; short = λ y. (refl, refl); fits = λ y. absurd (omega (arith, bytes_length (run_of issue cells))) };
          }

      pub done : 8 * length (run_of issue cells) ≤ length d → WritesSet issue cells d (sets d 0 (printed issue cells)) (Ok (length (run_of issue cells)))
      done n =
          let k = bytes_length (run_of issue cells) in
          let q : length (run_of issue cells) ≡ length (printed issue cells) / 8 = omega arith in
          let z : 0 + length (printed issue cells) ≡ length (printed issue cells) = omega arith in
          record {
            no_month = λ h. both (a_month issue) m h;
            cannot = λ h x. both (writable cells) w x;
            can = λ h x. record {
              run = printed issue cells;
              reads = reads;
              short = λ y. absurd (omega arith);
              fits = λ y. (ap took q, sets-eq (printed issue cells) d 0 (omega arith) ∙ ap (λ (i : ℕ). printed issue cells ++ drop i d) z);
            };
          }
