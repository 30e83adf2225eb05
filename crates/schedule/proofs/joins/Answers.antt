-- Test by test, as `may_join` has them.
-- Assumes nothing.
use Rattle.std.proofs.Common.{◌≡◌, refl, Bool, true, false, cond, ◌&&◌}
use borrow.Author.Tests.{eq-eqb, ne_eqb}
use Rattle.days.specs.Run.{goes_on}
use Rattle.schedule.specs.Kept.{may_join, after_date}
use Rattle.schedule.proofs.joins.Goals as goal

both : (a b z : Bool) → cond a (cond b z false) false ≡ cond (a && b) z false
both true b z = refl
both false b z = refl

pub returns-then-t-eq0 : goal.returns-then-t-eq0
unfolding may_join
returns-then-t-eq0 c = simp (eq-eqb _ _ c.if-t-eq0.true) c.opens.ensures

pub returns-then-t-x : goal.returns-then-t-x
unfolding may_join after_date goes_on
returns-then-t-x c = rw (ne_eqb _ _ c.if-t-eq0.false, both, c.if-t-x.true) c.goes_on.ensures

pub returns : goal.returns
unfolding may_join
returns c = rw (ne_eqb _ _ c.if-t-eq0.false, both, c.if-t-x.false)
