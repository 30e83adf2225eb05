-- As a call, by the state, the place and the line.
use Rattle.std.proofs.Common.{rules, ◌≡◌, Err, ap, sym, ◌∙◌}
use borrow.Author.Tests.{eq-eqb, ne_eqb}
use Rattle.reader.specs.Reader.{next_record}
use Rattle.reader.specs.Code.Gone.{gone_by}
use Rattle.reader.proofs.Laws.{line_gone}
use Rattle.reader.proofs.pass.Goals as goal

pub returns-then-t-ne0 : goal.returns-then-t-ne0
unfolding next_record
returns-then-t-ne0 c = rw (ne_eqb _ _ c.if-t-ne0.true, c.refusal_at.ensures, c.said_again.ensures)

pub returns-in_err-passed : goal.returns-in_err-passed
unfolding next_record
returns-in_err-passed c =
    let a = c.args in
    let e : c.from_residual.result ≡ Err c.in_err-passed.field-0.0 = search rules in
    rw (eq-eqb _ _ c.if-t-ne0.false, sym c.ends.ensures ∙ c.if-not-ends.true)
    (e ∙ ap gone_by (sym c.in_err-passed.was ∙ c.pass.ensures) ∙ line_gone a.t a.s.now)

pub returns-then-not-ends : goal.returns-then-not-ends
unfolding next_record
returns-then-not-ends c =
    let a = c.args in
    rw (eq-eqb _ _ c.if-t-ne0.false, sym c.ends.ensures ∙ c.if-not-ends.true)
    (ap gone_by (sym c.in_ok-passed.was ∙ c.pass.ensures) ∙ line_gone a.t a.s.now)

pub returns-then-closes : goal.returns-then-closes
unfolding next_record
returns-then-closes c =
    rw (
      eq-eqb _ _ c.if-t-ne0.false,
      sym c.ends.ensures ∙ c.if-not-ends.false,
      sym c.closes.ensures ∙ c.if-closes.true,
    )

pub returns : goal.returns
unfolding next_record
returns c =
    rw (
      eq-eqb _ _ c.if-t-ne0.false,
      sym c.ends.ensures ∙ c.if-not-ends.false,
      sym c.closes.ensures ∙ c.if-closes.false,
      c.refusal_at-2.ensures,
    )
