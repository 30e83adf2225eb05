-- By the part before the point: its length, its form, and what stands after it.
-- Assumes nothing.
use Rattle.number.specs.Code.Parts.{with_fraction}
use mathlib.Core.Path.{◌∙◌, sym}
use native.Mathlib.Omega.{arith}
use lib.Seq.{length-take-le}
use Rattle.number.proofs.Whole.{place_most, amount_far, amount_badly, amount_well, whole_fits}
use Rattle.number.proofs.read_amount.Goals as goal

pub returns-then-at-gt6 : goal.returns-then-at-gt6
returns-then-at-gt6 c =
    let p = c.point-at in
    sym (amount_far c.args.s.now p.result p.ensures c.if-at-gt6.true)

pub slice_bounds-whole-end : goal.slice_bounds-whole-end
slice_bounds-whole-end c =
    let p = c.point-at in
    sym (length-take-le p.result c.args.s.now (place_most c.args.s.now p.result p.ensures))

pub value-requires : goal.value-requires
value-requires c =
    let p = c.point-at in
    let f = whole_fits c.args.s.now p.result p.ensures c.if-at-gt6.false (sym c.shortest.ensures ∙ c.if-shortest.true) in
    (f.0, omega arith)

pub with_fraction-requires : goal.with_fraction-requires
with_fraction-requires c =
    let p = c.point-at in
    let f = whole_fits c.args.s.now p.result p.ensures c.if-at-gt6.false (sym c.shortest.ensures ∙ c.if-shortest.true) in
    (p.ensures, rw c.value.ensures f.1)

pub returns-then-shortest : goal.returns-then-shortest
returns-then-shortest c =
    let p = c.point-at in
    c.with_fraction.ensures ∙ (λ i. with_fraction (c.value.ensures i) c.args.s.now) ∙ sym (amount_well c.args.s.now p.result p.ensures c.if-at-gt6.false (sym c.shortest.ensures ∙ c.if-shortest.true))

pub returns : goal.returns
returns c =
    let p = c.point-at in
    let s = c.args.s.now in
    sym (amount_badly s p.result p.ensures (sym c.shortest.ensures ∙ c.if-shortest.false))
