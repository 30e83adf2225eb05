-- By the tests in their order.
use mathlib.Core.Path.{sym, ◌∙◌}
use lib.ListN.{length}
use Rattle.laid.specs.Laid.{Laid, laid, line_of}
use Rattle.laid.proofs.Laws.{fits_in, too_many, has, has_not}
use Rattle.laid.proofs.put.Goals as goal

pub returns-then-count-gt-PARTS : goal.returns-then-count-gt-PARTS
returns-then-count-gt-PARTS c =
    let a = c.args in
    too_many a.out.now a.at a.count a.lent.now (laid a.kinds.now a.numbers.now a.from.now a.to.now a.own.now) c.if-count-gt-PARTS.true

pub returns-then-not-has_room : goal.returns-then-not-has_room
returns-then-not-has_room c =
    let a = c.args in
    let p : Laid = laid a.kinds.now a.numbers.now a.from.now a.to.now a.own.now in
    sym (has_not a.out.now a.at a.count a.lent.now p c.if-count-gt-PARTS.false (sym c.has_room.ensures ∙ c.if-not-has_room.true))

pub put_line-requires : goal.put_line-requires
put_line-requires c =
    let a = c.args in
    let p : Laid = laid a.kinds.now a.numbers.now a.from.now a.to.now a.own.now in
    (c.if-count-gt-PARTS.false, fits_in (length a.out.now) a.at (line_of a.lent.now p a.count) (sym c.has_room.ensures ∙ c.if-not-has_room.false))

pub returns : goal.returns
returns c =
    let a = c.args in
    let p : Laid = laid a.kinds.now a.numbers.now a.from.now a.to.now a.own.now in
    let k = c.put_line.ensures in
    let h = sym c.has_room.ensures ∙ c.if-not-has_room.false in
    (λ i. record { end = k.1 i; buffer = k.0 i })
    ∙ sym (has a.out.now a.at a.count a.lent.now p c.if-count-gt-PARTS.false h)
