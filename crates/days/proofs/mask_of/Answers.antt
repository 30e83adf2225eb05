-- What is left of the days: those from column k on, up to the first 0.
-- Assumes nothing.
use Rattle.std.proofs.Common.{arith}
use Rattle.days.specs.Run.{upto0, columns, six_of}
use Rattle.std.proofs.Common.{drop}
use Rattle.days.proofs.Walk.{upto_stop, upto_end, left_end, bit, day_fits, day_next}
use Rattle.days.proofs.mask_of.Goals as goal

pub returns-then-d-eq0 : goal.returns-then-d-eq0
returns-then-d-eq0 c =
    let l = c.loop-d in
    let x = columns c.args.days in
    left_end (six_of c.args.days) (upto0 (drop l.d-index x)) l.mask l.invariant (upto_stop x l.d-index c.loop-d-test.true (rw c.six-d-items.ensures at c.if-d-eq0.true))

pub overflow_shl-mask : goal.overflow_shl-mask
overflow_shl-mask c =
    let l = c.loop-d in
    let f = day_fits c.args.month c.args.days c.requires l.d-index l.mask (omega arith) l.invariant (rw c.six-d-items.ensures at c.if-d-eq0.false) in
    rw c.six-d-items.ensures (omega arith)

pub overflow_add-mask : goal.overflow_add-mask
overflow_add-mask c =
    let l = c.loop-d in
    let f = day_fits c.args.month c.args.days c.requires l.d-index l.mask (omega arith) l.invariant (rw c.six-d-items.ensures at c.if-d-eq0.false) in
    rw c.six-d-items.ensures (omega (arith, bit _ (omega (arith, rw c.six-d-items.ensures at c.if-d-eq0.false)) f.1))

pub loop-d-preserved : goal.loop-d-preserved
loop-d-preserved c =
    let l = c.loop-d in
    rw c.six-d-items.ensures (day_next c.args.month c.args.days c.requires l.d-index l.mask (omega arith) l.invariant (rw c.six-d-items.ensures at c.if-d-eq0.false))

pub returns : goal.returns
returns c =
    let l = c.loop-d in
    let x = columns c.args.days in
    left_end (six_of c.args.days) (upto0 (drop l.d-index x)) l.mask l.invariant (upto_end x l.d-index (omega arith))
