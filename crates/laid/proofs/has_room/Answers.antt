-- By whether the place is inside.
use mathlib.Core.Path.{sym, ◌∙◌}
use native.Mathlib.Omega.{arith}
use Rattle.laid.specs.Laid.{laid, line_of}
use Rattle.laid.proofs.Along.{past, inside}
use Rattle.laid.proofs.has_room.Goals as goal

pub returns-then-most-at : goal.returns-then-most-at
returns-then-most-at c =
    let a = c.args in
    let m = c.limit-most.ensures in
    sym (past a.length a.at (line_of a.lent.now (laid a.kinds.now a.numbers.now a.from.now a.to.now a.own.now) a.count) (omega (arith, m)))

pub returns : goal.returns
returns c =
    let a = c.args in
    let l = c.limit-most in
    c.fits.ensures ∙ sym (inside a.length a.at (line_of a.lent.now (laid a.kinds.now a.numbers.now a.from.now a.to.now a.own.now) a.count) l.result l.ensures c.if-most-at.false)
