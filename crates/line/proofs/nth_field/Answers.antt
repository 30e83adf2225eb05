-- Each turn leaves the fields after the next comma.
use native.Mathlib.Omega.{arith}
use Prim.Native.Nat.{ℕ, ◌+◌, ◌-◌, ◌≤◌}
use mathlib.Core.Path.{◌≡◌, refl, sym, ap, ◌∙◌}
use mathlib.Core.List.{List, []}
use lib.ListN.{length, get_or}
use Rattle.line.proofs.Laws.{part}
use Rattle.line.specs.Fields.{fields_at}
use Rattle.line.proofs.Walk.{after_start, before_end, more_fit, first, later, none_later, outside}
use Rattle.line.proofs.nth_field.Goals as goal

pub returns-then-s-at : goal.returns-then-s-at
returns-then-s-at c = let a = c.args in sym (ap (λ (fs : List (List ℕ)). get_or fs (a.n - 1) []) (outside a.s.now a.at (omega arith)))

pub loop-init : goal.loop-init
loop-init c = (omega arith, omega arith, omega arith, refl)

pub returns-then-line_ends : goal.returns-then-line_ends
returns-then-line_ends c =
    let a = c.args in
    let l = c.loop in
    let e = c.field_end-end in
    let z : a.n - l.counter ≡ a.n - (l.counter + 1) + 1 = omega arith in
    sym
    (l.invariant.3 ∙
    ap (λ (i : ℕ). get_or (fields_at a.s.now l.from) i []) z ∙
    none_later a.s.now l.from l.invariant.0 e.result e.ensures (a.n - (l.counter + 1)) (sym c.line_ends.ensures ∙ c.if-line_ends.true))

pub overflow_add-from : goal.overflow_add-from
overflow_add-from c =
    let a = c.args in
    let l = c.loop in
    let e = c.field_end-end in
    let g : e.result + 1 ≤ length a.s.now =
    more_fit a.s.now l.from l.invariant.0 e.result e.ensures (sym c.line_ends.ensures ∙ c.if-line_ends.false) in
    omega (arith, g)

pub loop-preserved : goal.loop-preserved
loop-preserved c =
    let a = c.args in
    let l = c.loop in
    let e = c.field_end-end in
    let g : e.result + 1 ≤ length a.s.now =
    more_fit a.s.now l.from l.invariant.0 e.result e.ensures (sym c.line_ends.ensures ∙ c.if-line_ends.false) in
    let u : l.from ≤ e.result = after_start a.s.now l.from l.invariant.0 e.result e.ensures in
    let z : a.n - l.counter ≡ a.n - (l.counter + 1) + 1 = omega arith in
    let q : get_or (fields_at a.s.now l.from) (a.n - (l.counter + 1) + 1) [] ≡ get_or (fields_at a.s.now (e.result + 1)) (a.n - (l.counter + 1)) [] =
    later a.s.now l.from l.invariant.0 e.result e.ensures (a.n - (l.counter + 1)) (sym c.line_ends.ensures ∙ c.if-line_ends.false) in
    (g, omega arith, omega (arith, u, l.invariant.2), l.invariant.3 ∙ ap (λ (i : ℕ). get_or (fields_at a.s.now l.from) i []) z ∙ q)

pub slice_bounds-result-count-2 : goal.slice_bounds-result-count-2
slice_bounds-result-count-2 c =
    let a = c.args in
    let l = c.loop in
    let e = c.field_end-to in
    after_start a.s.now l.from l.invariant.0 e.result e.ensures

pub returns : goal.returns
returns c =
    let a = c.args in
    let l = c.loop in
    let e = c.field_end-to in
    let u : l.from ≤ e.result = after_start a.s.now l.from l.invariant.0 e.result e.ensures in
    let z : a.n - l.counter ≡ 0 = omega arith in
    part a.s.now l.from e.result u ∙
    sym (first a.s.now l.from l.invariant.0 e.result e.ensures) ∙
    sym (l.invariant.3 ∙ ap (λ (i : ℕ). get_or (fields_at a.s.now l.from) i []) z)

pub slice_bounds-result-start-2 : goal.slice_bounds-result-start-2
slice_bounds-result-start-2 c =
    let l = c.loop in
    let e = c.field_end-to in
    after_start c.args.s.now l.from l.invariant.0 e.result e.ensures

pub slice_bounds-result-end-2 : goal.slice_bounds-result-end-2
slice_bounds-result-end-2 c =
    let l = c.loop in
    let e = c.field_end-to in
    before_end c.args.s.now l.from l.invariant.0 e.result e.ensures
