-- By the state, the place and the line.
use mathlib.Core.Path.{ap, sym, ◌∙◌}
use borrow.Author.Tests.{eq-eqb, ne_eqb}
use Rattle.record.specs.declared.Line.{Line}
use Rattle.reader.specs.Reader.{refuses, next_record}
use Rattle.reader.specs.Code.Gone.{moves_on}
use Rattle.reader.proofs.Laws.{line_on}
use Rattle.reader.proofs.next.Goals as goal

pub returns-then-t-ne0 : goal.returns-then-t-ne0
unfolding next_record
returns-then-t-ne0 c =
    let a = c.args in
    rw (ne_eqb _ _ c.if-t-ne0.true) (c.refused.ensures ∙ ap (refuses a.t) c.said_again.ensures)

pub returns-then-ends : goal.returns-then-ends
unfolding next_record
returns-then-ends c = rw (eq-eqb _ _ c.if-t-ne0.false, sym c.ends.ensures ∙ c.if-ends.true) c.close.ensures

pub returns : goal.returns
unfolding next_record
returns c =
    let a = c.args in
    rw (eq-eqb _ _ c.if-t-ne0.false, sym c.ends.ensures ∙ c.if-ends.false)
    (c.moved.ensures ∙ ap (λ (l : Line). moves_on a.t l.answer l.next l.sofar) c.read-l.ensures ∙ line_on a.t a.s.now)
