-- By whether the kind is one digit.
use Prim.Native.Nat.{◌<◌}
use native.Mathlib.Omega.{arith}
use borrow.Author.Tests.{ltb-true}
use lib.Dec.{eqb, ltb}
use Rattle.cells.proofs.Alike.{and_parts}
use Rattle.entry.specs.Code.Judge.{kind_mark}
use Rattle.entry.proofs.kind_mark.Goals as goal

pub overflow_cast-result : goal.overflow_cast-result
overflow_cast-result c =
    let a = c.args in
    let l : a.number < 10 = ltb-true _ _ (and_parts (eqb a.kind 0) (ltb a.number 10) c.if-kind-number.true).1 in
    omega (arith, l)

pub overflow_add-result : goal.overflow_add-result
overflow_add-result c =
    let a = c.args in
    let l : a.number < 10 = ltb-true _ _ (and_parts (eqb a.kind 0) (ltb a.number 10) c.if-kind-number.true).1 in
    omega (arith, l)

pub returns-then-kind-number : goal.returns-then-kind-number
unfolding kind_mark
returns-then-kind-number c = rw c.if-kind-number.true

pub returns : goal.returns
unfolding kind_mark
returns c = rw c.if-kind-number.false
