-- By whether the lent bytes have the place.
-- Assumes nothing.
use mathlib.Core.Path.{◌∙◌, sym}
use Rattle.text.proofs.Laws.{at_inside, at_turned, at_outside, cut}
use Rattle.text.proofs.at.Goals as goal

pub returns-then-to-from : goal.returns-then-to-from
returns-then-to-from c = let a = c.args in sym (at_turned a.lent.now a.none.now a.from a.to c.if-to-from.true)

pub returns-then-lent-to : goal.returns-then-lent-to
returns-then-lent-to c = let a = c.args in sym (at_outside a.lent.now a.none.now a.from a.to c.if-lent-to.true)

pub returns : goal.returns
returns c =
    let a = c.args in
    cut a.lent.now a.from a.to c.if-to-from.false c.if-lent-to.false
    ∙ sym (at_inside a.lent.now a.none.now a.from a.to c.if-to-from.false c.if-lent-to.false)
