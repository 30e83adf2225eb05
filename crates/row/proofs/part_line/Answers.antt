-- Each turn notes where the next field ends, and leaves those after its comma.
use native.Mathlib.Omega.{arith}
use Prim.Native.Nat.{◌+◌, ◌≤◌}
use mathlib.Core.Path.{refl, sym, ◌∙◌}
use lib.ListN.{length}
use Rattle.line.proofs.Walk.{more_fit}
use Rattle.row.proofs.Parted.{cut_last, cut_more, cut_full}
use Rattle.row.proofs.part_line.Goals as goal

pub loop-k-init : goal.loop-k-init
loop-k-init c = (omega arith, c.requires, record { count_is = refl; ends_are = refl })

pub field_end-end-requires : goal.field_end-end-requires
field_end-end-requires c = tt

pub line_ends-requires : goal.line_ends-requires
line_ends-requires c = tt

pub returns-then-line_ends : goal.returns-then-line_ends
returns-then-line_ends c =
    let a = c.args in
    let l = c.loop-k in
    let e = c.field_end-end in
    cut_last a.s.now l.from l.invariant.1 l.k l.ends _ _ l.invariant.2 e.result e.ensures (omega arith) (sym c.line_ends.ensures ∙ c.if-line_ends.true)

pub overflow_add-from : goal.overflow_add-from
overflow_add-from c =
    let a = c.args in
    let l = c.loop-k in
    let e = c.field_end-end in
    let f : e.result + 1 ≤ length a.s.now =
    more_fit a.s.now l.from l.invariant.1 e.result e.ensures (sym c.line_ends.ensures ∙ c.if-line_ends.false) in
    omega (arith, f)

pub loop-k-preserved : goal.loop-k-preserved
loop-k-preserved c =
    let a = c.args in
    let l = c.loop-k in
    let e = c.field_end-end in
    let f : e.result + 1 ≤ length a.s.now =
    more_fit a.s.now l.from l.invariant.1 e.result e.ensures (sym c.line_ends.ensures ∙ c.if-line_ends.false) in
    (omega arith, f, cut_more a.s.now l.from l.invariant.1 l.k l.ends _ _ l.invariant.2 e.result e.ensures (omega arith) (sym c.line_ends.ensures ∙ c.if-line_ends.false))

pub returns : goal.returns
returns c =
    let a = c.args in
    let l = c.loop-k in
    cut_full a.s.now l.from l.invariant.1 l.k l.ends _ _ l.invariant.2 (omega arith)
