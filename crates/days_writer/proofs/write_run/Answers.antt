-- By the laws of `Answers`, one for each answer.
-- Assumes nothing.
use mathlib.Core.Path.{◌≡◌, sym, ◌∙◌}
use lib.ListN.{length}
use Rattle.days.proofs.Month.{a_month_lem, before_first, past_last}
use Rattle.days_writer.proofs.Answers.{ten, eleven, full, done}
use native.Mathlib.Omega.{arith}
use borrow.Author.Rules.{rules}
use Rattle.days_writer.proofs.write_run.Goals as goal

pub returns-then-issue-eq0 : goal.returns-then-issue-eq0
returns-then-issue-eq0 c =
    let a = c.args in
    rw c.not_written.ensures (ten a.issue a.days.cells a.out.now (before_first a.issue c.if-issue-eq0.true))

pub returns-then-issue-gt12 : goal.returns-then-issue-gt12
returns-then-issue-gt12 c =
    let a = c.args in
    rw c.not_written-then-issue-gt12.ensures (ten a.issue a.days.cells a.out.now (past_last a.issue c.if-issue-gt12.true))

pub returns-then-out-n : goal.returns-then-out-n
returns-then-out-n c =
    let a = c.args in
    let m = a_month_lem a.issue (omega arith) (omega arith) in
    let w = sym c.can_write.ensures ∙ c.if-can_write.true in
    let l : length a.days.cells ≡ 13 = search rules in
    rw c.not_written-then-out-n.ensures (full a.issue a.days.cells a.out.now m w l (omega (arith, c.count_codes-n.ensures.0)))

pub returns-then-can_write : goal.returns-then-can_write
returns-then-can_write c =
    let a = c.args in
    let m = a_month_lem a.issue (omega arith) (omega arith) in
    let w = sym c.can_write.ensures ∙ c.if-can_write.true in
    let l : length a.days.cells ≡ 13 = search rules in
    let n = c.count_codes-n.ensures.0 in
    rw (n, c.put_run.ensures) (done a.issue a.days.cells a.out.now m w l (omega (arith, n, c.if-out-n.false)))

pub returns : goal.returns
returns c =
    let a = c.args in
    let m = a_month_lem a.issue (omega arith) (omega arith) in
    rw c.not_written-2.ensures (eleven a.issue a.days.cells a.out.now m (sym c.can_write.ensures ∙ c.if-can_write.false))
