-- The next comma is the next from there on.
use Rattle.std.proofs.Common.{◌≡◌, length, refl, ◌∙◌, sym, arith}
use Rattle.entry.proofs.Walk.{comma_here, comma_later, comma_end}
use Rattle.entry.proofs.comma.Goals as goal

pub loop-i-init : goal.loop-i-init
loop-i-init c = refl

pub returns-then-s-i-eq44 : goal.returns-then-s-i-eq44
returns-then-s-i-eq44 c =
    let l = c.loop-i in
    sym (comma_here c.args.s.now l.i (omega arith) c.if-s-i-eq44.true) ∙ l.invariant

pub loop-i-preserved : goal.loop-i-preserved
loop-i-preserved c =
    let l = c.loop-i in
    comma_later c.args.s.now l.i (omega arith) c.if-s-i-eq44.false ∙ l.invariant

pub returns : goal.returns
returns c =
    let l = c.loop-i in
    let e : length c.args.s.now ≡ l.i = omega (arith, c.requires) in
    e ∙ sym (comma_end c.args.s.now l.i (omega arith)) ∙ l.invariant
