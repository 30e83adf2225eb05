-- The loop leaves the first wrong text as it was: that of the texts from there on.
use mathlib.Core.Path.{refl, ◌∙◌, sym, ap}
use native.Mathlib.Omega.{arith}
use Rattle.field.specs.declared.Field.{Field}
use Rattle.entry.proofs.Walk.{comma_most, wrong_text_here, no_text_more, next_text}
use Rattle.entry.proofs.wrong_text.Goals as goal

pub loop-b-init : goal.loop-b-init
loop-b-init c = (omega arith, refl)

pub slice_bounds-read-count : goal.slice_bounds-read-count
slice_bounds-read-count c = omega (arith, comma_most _ _ _ c.loop-b.invariant.0 c.comma-to.ensures)

pub slice_bounds-read-start : goal.slice_bounds-read-start
slice_bounds-read-start c = omega (arith, comma_most _ _ _ c.loop-b.invariant.0 c.comma-to.ensures)

pub slice_bounds-read-end : goal.slice_bounds-read-end
slice_bounds-read-end c = omega (arith, comma_most _ _ _ c.loop-b.invariant.0 c.comma-to.ensures)

pub returns-then-n-ne0 : goal.returns-then-n-ne0
returns-then-n-ne0 c =
    let l = c.loop-b in
    sym (wrong_text_here _ _ _ _ l.invariant.0 c.comma-to.ensures _ c.kept_rule-r.ensures _ (ap (λ (t : Field). t.fault.number) c.read-n.ensures) c.if-n-ne0.true) ∙ l.invariant.1

pub returns-then-to-s : goal.returns-then-to-s
returns-then-to-s c =
    let l = c.loop-b in
    sym (no_text_more _ _ _ _ l.invariant.0 c.comma-to.ensures _ c.kept_rule-r.ensures _ (ap (λ (t : Field). t.fault.number) c.read-n.ensures) c.if-to-s.true c.if-n-ne0.false) ∙ l.invariant.1

pub overflow_add-from : goal.overflow_add-from
overflow_add-from c = omega (arith, comma_most _ _ _ c.loop-b.invariant.0 c.comma-to.ensures)

pub loop-b-smaller : goal.loop-b-smaller
loop-b-smaller c = omega (arith, comma_most _ _ _ c.loop-b.invariant.0 c.comma-to.ensures)

pub loop-b-preserved : goal.loop-b-preserved
loop-b-preserved c =
    let l = c.loop-b in (
      omega (arith, comma_most _ _ _ l.invariant.0 c.comma-to.ensures),
      sym (next_text _ _ _ _ l.invariant.0 c.comma-to.ensures _ c.kept_rule-r.ensures _ (ap (λ (t : Field). t.fault.number) c.read-n.ensures) c.if-to-s.false c.if-n-ne0.false) ∙ l.invariant.1,
    )
