-- By the record's number, then by whether fields follow it.
use Prim.Native.Nat.{ℕ, ◌+◌, ◌≤◌}
use Rattle.std.proofs.Common.{Err}
use mathlib.Core.Path.{◌≡◌, refl, sym, ap, subst, ◌∙◌}
use mathlib.Core.List.{List}
use native.Mathlib.Omega.{arith}
use lib.ListN.{length}
use lib.Seq.{slice}
use Rattle.line.proofs.Laws.{part}
use Rattle.number.specs.Number.{read_number}
use Rattle.line.proofs.Walk.{after_start, before_end, more_fit}
use Rattle.order.proofs.Standing.{stands_by, refused_by}
use Rattle.record_line.specs.Line.{number_in}
use Rattle.record_line.specs.Code.Built.{Heads}
use Rattle.record_line.proofs.Whole.{head_nowhere, head_refused, head_bare, head_fields}
use Rattle.record_line.proofs.read_head.Goals as goal

pub returns-then-s-at : goal.returns-then-s-at
returns-then-s-at c =
    let a = c.args in
    subst (Heads a.last a.s.now a.at) (ap Err (sym c.refused_at.ensures)) (head_nowhere a.last a.s.now a.at (omega arith))

pub slice_bounds-record_number-count : goal.slice_bounds-record_number-count
slice_bounds-record_number-count c =
    let a = c.args in
    let e = c.field_end-end in
    after_start a.s.now a.at (omega arith) e.result e.ensures

pub slice_bounds-record_number-start : goal.slice_bounds-record_number-start
slice_bounds-record_number-start c =
    let a = c.args in
    let e = c.field_end-end in
    after_start a.s.now a.at (omega arith) e.result e.ensures

pub slice_bounds-record_number-end : goal.slice_bounds-record_number-end
slice_bounds-record_number-end c =
    let a = c.args in
    let e = c.field_end-end in
    before_end a.s.now a.at (omega arith) e.result e.ensures

pub returns-in-Err : goal.returns-in-Err
returns-in-Err c =
    let a = c.args in
    let e = c.field_end-end in
    let n = c.record_number-n in
    let g : n.result ≡ number_in (read_number 1 999 (slice a.at e.result a.s.now)) =
    n.ensures ∙
    ap (λ (f : List ℕ). number_in (read_number 1 999 f)) (part a.s.now a.at e.result (after_start a.s.now a.at (omega arith) e.result e.ensures)) in
    let v = refused_by _ _ c.follow.ensures _ c.in-Err.is in
    subst (Heads a.last a.s.now a.at) (ap Err (sym c.refused_at-in-Err.ensures))
    (head_refused a.last a.s.now a.at (omega arith) e.result e.ensures n.result g _ v.0 v.1)

pub returns-then-line_ends : goal.returns-then-line_ends
returns-then-line_ends c =
    let a = c.args in
    let e = c.field_end-end in
    let n = c.record_number-n in
    let g : n.result ≡ number_in (read_number 1 999 (slice a.at e.result a.s.now)) =
    n.ensures ∙
    ap (λ (f : List ℕ). number_in (read_number 1 999 f)) (part a.s.now a.at e.result (after_start a.s.now a.at (omega arith) e.result e.ensures)) in
    let v = stands_by _ _ c.follow.ensures c.in_default.not-Err in
    subst (Heads a.last a.s.now a.at) (ap Err (sym c.refused_at-then-line_ends.ensures))
    (head_bare a.last a.s.now a.at (omega arith) e.result e.ensures n.result g _ refl v
    (sym c.line_ends.ensures ∙ c.if-line_ends.true))

pub overflow_add-result : goal.overflow_add-result
overflow_add-result c =
    let a = c.args in
    let e = c.field_end-end in
    let f : e.result + 1 ≤ length a.s.now =
    more_fit a.s.now a.at (omega arith) e.result e.ensures (sym c.line_ends.ensures ∙ c.if-line_ends.false) in
    omega (arith, f)

pub returns : goal.returns
returns c =
    let a = c.args in
    let e = c.field_end-end in
    let n = c.record_number-n in
    let g : n.result ≡ number_in (read_number 1 999 (slice a.at e.result a.s.now)) =
    n.ensures ∙
    ap (λ (f : List ℕ). number_in (read_number 1 999 f)) (part a.s.now a.at e.result (after_start a.s.now a.at (omega arith) e.result e.ensures)) in
    let v = stands_by _ _ c.follow.ensures c.in_default.not-Err in
    head_fields a.last a.s.now a.at (omega arith) e.result e.ensures n.result g _ refl v (sym c.line_ends.ensures ∙ c.if-line_ends.false)
