-- The loop leaves the scan of what is left of the row as it was; `Scan` has its steps.
use mathlib.Core.Path.{◌∙◌, sym, ap}
use native.Mathlib.Omega.{arith}
use Rattle.cells.specs.Test.{passes}
use Rattle.cells.proofs.Scan.{step, stop, done}
use Rattle.cells.proofs.first_fault.Goals as goal

pub loop-i-preserved : goal.loop-i-preserved
loop-i-preserved c = step _ _ _ _ _ c.loop-i.i (omega arith) (omega arith) (sym c.wrong_at.ensures ∙ c.in_default.is) ∙ c.loop-i.invariant

pub returns-in-Err : goal.returns-in-Err
returns-in-Err c = sym (stop _ _ _ _ _ c.loop-i.i c.in-Err.number (omega arith) (sym c.wrong_at.ensures ∙ c.in-Err.is)) ∙ ap passes c.loop-i.invariant

pub returns : goal.returns
returns c = sym (done _ _ _ _ _ c.loop-i.i c.loop-i-test.false) ∙ ap passes c.loop-i.invariant
