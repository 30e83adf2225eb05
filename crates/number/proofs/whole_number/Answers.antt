-- The loop leaves the number of what is read and what is left as it was; i digits are below 10 to the i, so that it fits throughout.
-- Assumes nothing.
use Prim.Native.Nat.{ℕ}
use mathlib.Core.Path.{◌≡◌, ◌∙◌, sym}
use mathlib.Core.Bool.{true}
use mathlib.Core.List.{List}
use native.Mathlib.Omega.{arith}
use borrow.Author.Rules.{rules}
use lib.ListN.{get_or}
use Rattle.number.specs.Number.{figure}
use Rattle.number.specs.Code.Parts.{whole_number}
use Rattle.number.proofs.Sizes.{figure_range, one_more, at_most}
use Rattle.number.proofs.Steps.{figures_end, figures_more, figures_stop, value_more, value_end}
use Rattle.number.proofs.whole_number.Goals as goal

pub loop-c-init : goal.loop-c-init
unfolding whole_number
loop-c-init c = search rules

pub overflow_mul-m : goal.overflow_mul-m
overflow_mul-m c =
    let l = c.loop-c in
    omega (arith, at_most 5 l.m l.c-index l.invariant.1 (omega arith))

pub digit-requires : goal.digit-requires
unfolding figure
digit-requires c = (figure_range _ (sym (c.is_ascii_digit.ensures.value) ∙ c.if-not-is_ascii_digit.false)).0

pub overflow_add-m : goal.overflow_add-m
overflow_add-m c =
    let l = c.loop-c in
    omega (arith, at_most 5 l.m l.c-index l.invariant.1 (omega arith), c.type_inv.s l.c-index)

pub loop-c-preserved : goal.loop-c-preserved
unfolding figure
loop-c-preserved c =
    let l = c.loop-c in
    let s : List ℕ = c.args.s.now in
    let e : figure (get_or s l.c-index 0) ≡ true = sym (c.is_ascii_digit.ensures.value) ∙ c.if-not-is_ascii_digit.false in
    rw c.digit.ensures (
      rw (← figures_more s l.c-index (omega arith) e, ← value_more s l.c-index (omega arith) l.m) l.invariant.0,
      one_more l.m l.c-index (get_or s l.c-index 0) l.invariant.1 (figure_range _ e).1,
    )

pub returns-then-not-is_ascii_digit : goal.returns-then-not-is_ascii_digit
unfolding figure
returns-then-not-is_ascii_digit c =
    let l = c.loop-c in
    rw (figures_stop c.args.s.now l.c-index (omega arith) (sym (c.is_ascii_digit.ensures.value) ∙ c.if-not-is_ascii_digit.true)) at l.invariant.0

pub returns : goal.returns
returns c =
    let l = c.loop-c in
    let s : List ℕ = c.args.s.now in
    rw (figures_end s l.c-index (omega arith), value_end s l.c-index l.m (omega arith)) at l.invariant.0
