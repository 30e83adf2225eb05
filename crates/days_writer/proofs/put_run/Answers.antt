-- What is left to write is the codes of the places from p on.
-- Assumes nothing.
use mathlib.Core.Path.{refl, sym, ◌∙◌}
use Rattle.days_writer.specs.Code.Print.{days_in, run_of}
use Rattle.days_writer.proofs.Put.{run_count, run_next, run_end, written_all}
use native.Mathlib.Omega.{arith}
use Rattle.days_writer.proofs.put_run.Goals as goal

pub loop-place-init : goal.loop-place-init
loop-place-init c = (omega arith, refl, omega arith, refl)

pub put_month-j-requires : goal.put_month-j-requires
unfolding run_of
put_month-j-requires c =
    let a = c.args in
    let l = c.loop-place in
    let m = c.month_at-m in
    let n = run_count a.issue.number l.place a.days.cells m.result (omega arith) m.ensures.0 in
    omega arith

pub loop-place-preserved : goal.loop-place-preserved
loop-place-preserved c =
    let a = c.args in
    let l = c.loop-place in
    let m = c.month_at-m in
    let p = c.put_month-j in
    let n = run_count a.issue.number l.place a.days.cells m.result (omega arith) m.ensures.0 in (
      omega arith,
      p.auto.out ∙ l.invariant.1,
      omega (arith, p.ensures.0),
      run_next a.issue.number l.place a.days.cells m.result (omega arith) m.ensures.0 l.out _ l.j _ p.ensures.1 p.ensures.0 ∙ l.invariant.3,
    )

pub shape_of-out : goal.shape_of-out
shape_of-out c = c.loop-place.invariant.1

pub returns : goal.returns
unfolding run_of
returns c =
    let a = c.args in
    let l = c.loop-place in
    sym (written_all l.out l.j _ (run_end a.issue.number l.place (days_in a.days.cells) (omega arith))) ∙ l.invariant.3
