-- The codes counted and those of the places left are all codes.
-- Assumes nothing.
use mathlib.Core.Path.{ap}
use lib.ListN.{length}
use Rattle.days_writer.specs.Code.Print.{days_in, run_of}
use Rattle.days_writer.proofs.Sixes.{count}
use Rattle.days_writer.proofs.Put.{run_count, run_end}
use native.Mathlib.Omega.{arith}
use Rattle.days_writer.proofs.count_codes.Goals as goal

pub loop-p-init : goal.loop-p-init
loop-p-init c = (omega arith, omega arith, omega arith)

pub overflow_add-n : goal.overflow_add-n
overflow_add-n c = omega arith

pub overflow_add-n-in-loop-p : goal.overflow_add-n-in-loop-p
overflow_add-n-in-loop-p c = omega arith

pub loop-p-preserved : goal.loop-p-preserved
loop-p-preserved c =
    let a = c.args in
    let l = c.loop-p in
    let m = c.month_at-m in
    let n = run_count a.issue.number l.p a.days.cells m.result (omega arith) m.ensures.0 in
    let t = count m.result (days_in a.days.cells m.result) in
    (omega arith, omega arith, omega (arith, c.day_count.ensures.0))

pub returns : goal.returns
unfolding run_of
returns c =
    let a = c.args in
    let l = c.loop-p in
    (omega (arith, ap length (run_end a.issue.number l.p (days_in a.days.cells) (omega arith))), omega arith)
