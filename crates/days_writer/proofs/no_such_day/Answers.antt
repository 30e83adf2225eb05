-- The cells passed hold only days of their months: the test of the cells left is the test of all.
-- Assumes nothing.
use Prim.Native.Nat.{◌+◌}
use mathlib.Core.Path.{◌≡◌, refl, sym, ap, ◌∙◌}
use mathlib.Core.Bool.{Bool, ◌||◌}
use borrow.Author.Tests.{le-leb, lt-leb}
use lib.ListN.{length, drop}
use Rattle.days_writer.specs.Set.{no_such_day}
use Rattle.days_writer.proofs.Sets.{exist_step, exist_end, beyond_at}
use native.Mathlib.Omega.{arith}
use borrow.Author.Rules.{rules}
use Rattle.days_writer.proofs.no_such_day.Goals as goal

pub loop-m-init : goal.loop-m-init
loop-m-init c = (omega arith, refl)

pub returns-then-m-days : goal.returns-then-m-days
returns-then-m-days c =
    let a = c.args in
    let l = c.loop-m in
    let len : length a.days.cells ≡ 13 = search rules in
    sym
    (sym l.invariant.1 ∙ exist_step a.days.cells l.m (omega arith)
    ∙ ap (λ (b : Bool). b || no_such_day (l.m + 1) (drop (l.m + 1) a.days.cells)) (le-leb _ _ (rw (beyond_at l.m (omega arith)) at c.if-m-days.true)))

pub loop-m-preserved : goal.loop-m-preserved
loop-m-preserved c =
    let a = c.args in
    let l = c.loop-m in
    let len : length a.days.cells ≡ 13 = search rules in (
      omega arith,
      sym
          (exist_step a.days.cells l.m (omega arith)
          ∙ ap (λ (b : Bool). b || no_such_day (l.m + 1) (drop (l.m + 1) a.days.cells)) (lt-leb _ _ (rw (beyond_at l.m (omega arith)) at c.if-m-days.false)))
          ∙ l.invariant.1,
    )

pub returns : goal.returns
returns c =
    let a = c.args in
    let l = c.loop-m in
    let len : length a.days.cells ≡ 13 = search rules in
    sym (exist_end a.days.cells l.m (omega arith)) ∙ l.invariant.1
