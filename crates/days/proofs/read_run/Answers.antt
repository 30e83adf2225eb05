-- Test by test, as `read_run` has them.
-- Assumes nothing.
use Rattle.std.proofs.Common.{arith, ap}
use Rattle.std.specs.Prelude.{Err}
use borrow.Author.Tests.{eq-eqb, ne_eqb}
use Rattle.days.specs.declared.Halt.{Halt}
use Rattle.days.specs.Run.{read_run}
use Rattle.days.proofs.Month.{a_month_lem, before_first, past_last}
use Rattle.days.proofs.read_run.Goals as goal

pub returns-then-issue-eq0 : goal.returns-then-issue-eq0
unfolding read_run
returns-then-issue-eq0 c = simp (before_first _ c.if-issue-eq0.true) (ap (λ (h : Halt). Err h) c.refuse.ensures)

pub returns-then-issue-gt12 : goal.returns-then-issue-gt12
unfolding read_run
returns-then-issue-gt12 c = simp (past_last _ c.if-issue-gt12.true) (ap (λ (h : Halt). Err h) c.refuse-then-issue-gt12.ensures)

pub returns-then-s-ne0 : goal.returns-then-s-ne0
unfolding read_run
returns-then-s-ne0 c =
    simp (a_month_lem c.args.issue (omega arith) (omega arith), ne_eqb _ _ c.if-s-ne0.true) (ap (λ (h : Halt). Err h) c.refuse-then-s-ne0.ensures)

pub returns-then-s-eq0 : goal.returns-then-s-eq0
unfolding read_run
returns-then-s-eq0 c =
    simp (a_month_lem c.args.issue (omega arith) (omega arith), eq-eqb _ _ c.if-s-ne0.false, eq-eqb _ _ c.if-s-eq0.true)
    (ap (λ (h : Halt). Err h) c.refuse-then-s-eq0.ensures)

pub returns : goal.returns
unfolding read_run
returns c = simp (a_month_lem c.args.issue (omega arith) (omega arith), eq-eqb _ _ c.if-s-ne0.false, ne_eqb _ _ c.if-s-eq0.false) c.read_codes.ensures
