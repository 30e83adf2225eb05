-- The loop leaves the value of what is read and what is left as it was; it only grows, so that it fits throughout.
-- Assumes nothing.
use Prim.Native.Nat.{ℕ, ◌+◌, ◌-◌, ◌*◌}
use mathlib.Core.Path.{◌∙◌, sym}
use native.Mathlib.Omega.{arith}
use mathlib.Core.List.{List}
use lib.ListN.{get_or, drop}
use Rattle.number.proofs.Sizes.{least}
use Rattle.number.proofs.Steps.{figures_here, value_more, value_end}
use Rattle.number.proofs.value.Goals as goal

pub overflow_mul-m : goal.overflow_mul-m
overflow_mul-m c =
    let l = c.loop-c in
    let s : List ℕ = c.args.s.now in
    omega (arith, least (l.m * 10 + (get_or s l.c-index 0 - 48)) (drop (l.c-index + 1) s), value_more s l.c-index (omega arith) l.m, l.invariant.1, c.requires)

pub digit-requires : goal.digit-requires
digit-requires c = (figures_here c.args.s.now c.loop-c.c-index (omega arith) c.loop-c.invariant.0).0

pub overflow_add-m : goal.overflow_add-m
overflow_add-m c =
    let l = c.loop-c in
    let s : List ℕ = c.args.s.now in
    omega (arith, least (l.m * 10 + (get_or s l.c-index 0 - 48)) (drop (l.c-index + 1) s), value_more s l.c-index (omega arith) l.m, l.invariant.1, c.requires)

pub loop-c-preserved : goal.loop-c-preserved
loop-c-preserved c =
    let l = c.loop-c in
    let s : List ℕ = c.args.s.now in (
      (figures_here s l.c-index (omega arith) l.invariant.0).2,
      rw c.digit.ensures (sym (value_more s l.c-index (omega arith) l.m) ∙ l.invariant.1),
    )

pub returns : goal.returns
returns c =
    let l = c.loop-c in sym (value_end c.args.s.now l.c-index l.m (omega arith)) ∙ l.invariant.1
