-- What has been seen of the columns (`Seen`).
-- Assumes nothing.
use Rattle.std.proofs.Common.{ℕ, ◌+◌, List, get_or, true, false, sym, subst, arith}
use borrow.Author.Tests.{eq-eqb, ne_eqb}
use Rattle.days.specs.Run.{columns}
use Rattle.days.proofs.Walk.{upto_stop, upto_end}
use Rattle.days.proofs.Ends.{Seen, seen_none, seen_day, seen_all}
use Rattle.days.proofs.Last.of.Goals as goal

pub loop-d-init : goal.loop-d-init
loop-d-init c = seen_none (columns c.args.days)

pub returns-then-d-eq0 : goal.returns-then-d-eq0
returns-then-d-eq0 c =
    let l = c.loop-d in
    let x = columns c.args.days in
    seen_all x l.d-index l.day l.invariant (upto_stop x l.d-index c.loop-d-test.true (rw c.six-d-items.ensures at c.if-d-eq0.true)) c.args.month false (ne_eqb l.d-index 6 (omega arith))

pub loop-d-preserved : goal.loop-d-preserved
loop-d-preserved c =
    let l = c.loop-d in
    let seen = seen_day (columns c.args.days) l.d-index l.day l.invariant c.loop-d-test.true (rw c.six-d-items.ensures at c.if-d-eq0.false) in
    subst (λ (items : List ℕ). Seen (columns c.args.days) (l.d-index + 1) (get_or items l.d-index 0)) (sym c.six-d-items.ensures) seen

pub returns : goal.returns
returns c =
    let l = c.loop-d in
    let x = columns c.args.days in
    seen_all x l.d-index l.day l.invariant (upto_end x l.d-index (omega arith)) c.args.month true (eq-eqb l.d-index 6 (omega arith))
