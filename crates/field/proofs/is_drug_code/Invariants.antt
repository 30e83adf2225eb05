-- The loop leaves the test of the bytes left as it was; `Characters` has the steps.
-- Assumes nothing.
use Prim.Native.Nat.{◌-◌}
use mathlib.Core.Path.{◌≡◌}
use lib.ListN.{length, drop}
use Rattle.field.specs.Field.{is_drug_code}
use Rattle.field.proofs.is_drug_code.Given as goal

abbrev pub invariant-loop-i : goal.invariant-loop-i
invariant-loop-i l = is_drug_code (drop l.i l.f) ≡ is_drug_code l.f

abbrev pub decreases-loop-i : goal.decreases-loop-i
decreases-loop-i l = length l.f - l.i
