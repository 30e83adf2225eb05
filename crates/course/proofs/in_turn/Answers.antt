-- With no day on the divisor may be 0, and there is no dose.
-- Assumes nothing.
use Prim.Native.Nat.{◌+◌, ◌%◌}
use mathlib.Core.Path.{◌≡◌, sym}
use native.Mathlib.Omega.{arith}
use borrow.Author.Tests.{le-ltb}
use Rattle.course.proofs.in_turn.Goals as goal

pub returns-then-on-eq0 : goal.returns-then-on-eq0
returns-then-on-eq0 c = let z : c.args.on ≡ 0 = c.if-on-eq0.true in sym (le-ltb (c.args.k % (c.args.on + c.args.off)) c.args.on (omega arith))

pub wide-requires : goal.wide-requires
wide-requires c = tt

pub wide-requires-2 : goal.wide-requires-2
wide-requires-2 c = tt

pub wide-requires-3 : goal.wide-requires-3
wide-requires-3 c = tt

pub returns : goal.returns
returns c = rw (c.wide.ensures, c.wide-2.ensures, c.wide-3.ensures)
