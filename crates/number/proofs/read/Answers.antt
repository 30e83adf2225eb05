-- By the length, the first digit, and the range.
-- Assumes nothing.
use Rattle.std.proofs.Common.{arith, ◌∙◌, sym}
use Rattle.number.proofs.Whole.{number_sized, sized, number_led, whole_some, whole_none}
use Rattle.number.proofs.read.Goals as goal

pub returns-then-is_empty-s : goal.returns-then-is_empty-s
returns-then-is_empty-s c = sym (number_sized c.args.lo c.args.hi c.args.s.now (omega arith) (rw c.is_empty.ensures at c.if-is_empty-s.true))

pub bounds-s-0 : goal.bounds-s-0
bounds-s-0 c = omega (arith, sized c.args.s.now (rw c.is_empty.ensures at c.if-is_empty-s.false))

pub returns-then-s : goal.returns-then-s
returns-then-s c =
    sym (number_led c.args.lo c.args.hi c.args.s.now (sized c.args.s.now (rw c.is_empty.ensures at c.if-is_empty-s.false)) c.if-s.true)

pub returns-in-Some : goal.returns-in-Some
returns-in-Some c =
    let s = c.args.s.now in
    let e = whole_some c.args.lo c.args.hi s (sized s (rw c.is_empty.ensures at c.if-is_empty-s.false)) c.in-Some.n (sym c.whole_number.ensures ∙ c.in-Some.is) c.if-s.false in
    cc (e, c.within.ensures, c.from.ensures, c.from-in-Some.ensures)

pub returns-in-None : goal.returns-in-None
returns-in-None c =
    let s = c.args.s.now in
    sym
    (whole_none c.args.lo c.args.hi s (sized s (rw c.is_empty.ensures at c.if-is_empty-s.false))
    (sym c.whole_number.ensures ∙ c.in-None.is) c.if-s.false)
