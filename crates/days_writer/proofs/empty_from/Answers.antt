-- The cells passed hold no day: the test of the cells left is the test of all.
-- Assumes nothing.
use Prim.Native.Nat.{◌+◌}
use mathlib.Core.Path.{◌≡◌, refl, sym, ap, ◌∙◌}
use mathlib.Core.Bool.{Bool, ◌&&◌}
use borrow.Author.Tests.{eq-eqb, ne_eqb}
use lib.ListN.{length, drop}
use Rattle.days_writer.specs.Set.{empty}
use Rattle.days_writer.proofs.Sets.{empty_step, empty_end}
use native.Mathlib.Omega.{arith}
use borrow.Author.Rules.{rules}
use Rattle.days_writer.proofs.empty_from.Goals as goal

pub loop-m-init : goal.loop-m-init
loop-m-init c = refl

pub returns-then-days-m-ne0 : goal.returns-then-days-m-ne0
returns-then-days-m-ne0 c =
    let a = c.args in
    let l = c.loop-m in
    let len : length a.days.cells ≡ 13 = search rules in
    sym
    (sym l.invariant ∙ empty_step a.days.cells l.m (omega arith) ∙ ap (λ (b : Bool). b && empty (drop (l.m + 1) a.days.cells)) (ne_eqb _ _ c.if-days-m-ne0.true))

pub loop-m-preserved : goal.loop-m-preserved
loop-m-preserved c =
    let a = c.args in
    let l = c.loop-m in
    let len : length a.days.cells ≡ 13 = search rules in
    sym (empty_step a.days.cells l.m (omega arith) ∙ ap (λ (b : Bool). b && empty (drop (l.m + 1) a.days.cells)) (eq-eqb _ _ c.if-days-m-ne0.false)) ∙ l.invariant

pub returns : goal.returns
returns c =
    let a = c.args in
    let l = c.loop-m in
    let len : length a.days.cells ≡ 13 = search rules in
    sym (empty_end a.days.cells l.m (omega arith)) ∙ l.invariant
