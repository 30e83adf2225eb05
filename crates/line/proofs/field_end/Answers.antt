-- The loop leaves the end as it was: what is passed, and what is left of the field; `Steps` has the steps.
-- Assumes nothing.
use mathlib.Core.Path.{◌∙◌, sym}
use native.Mathlib.Omega.{arith}
use borrow.Author.Tests.{leb-true, leb-false}
use lib.Dec.{leb}
use lib.ListN.{length}
use Rattle.cells.proofs.Split.{split}
use Rattle.line.proofs.Steps.{field_none, field_end_lem, field_past, field_here, field_more}
use Rattle.line.proofs.field_end.Goals as goal

pub returns-then-ends : goal.returns-then-ends
returns-then-ends c =
    let l = c.loop-i in
    omega (arith, l.invariant (omega arith), field_here c.args.s.now l.i (omega arith) (sym c.ends.ensures ∙ c.if-ends.true))

pub loop-i-preserved : goal.loop-i-preserved
loop-i-preserved c =
    let l = c.loop-i in
    λ h. omega (arith, l.invariant (omega arith), field_more c.args.s.now l.i (omega arith) (sym c.ends.ensures ∙ c.if-ends.false))

pub loop-i-init : goal.loop-i-init
loop-i-init c = λ h. field_end_lem c.args.s.now c.args.at h

pub returns : goal.returns
returns c =
    let s = c.args.s.now in
    let l = c.loop-i in
    split (leb c.args.at (length s))
    (λ e. let a = leb-true c.args.at (length s) e in omega (arith, l.invariant (omega arith), field_none s l.i (omega arith)))
    (λ e. sym (field_past s c.args.at (leb-false c.args.at (length s) e)))
