-- The loop leaves the row as it was: that of the fields from there on.
-- Assumes nothing.
use Prim.Native.Nat.{ℕ, ◌+◌, ◌-◌, ◌≤◌}
use mathlib.Core.Path.{◌≡◌, sym, ◌∙◌}
use mathlib.Core.Bool.{true, false}
use mathlib.Core.List.{List, [], ◌∷◌}
use native.Mathlib.Omega.{arith}
use borrow.Author.Tests.{eq-eqb, ne_eqb}
use lib.ListN.{length, take, drop}
use lib.Seq.{slice}
use Rattle.cells.proofs.Split.{split}
use Rattle.line.specs.Fields.{field_end, fields_at, line_ends}
use Rattle.field.specs.Field.{Context, context, free, text, read_field}
use Rattle.field.specs.declared.Rule.{Rule}
use Rattle.field.specs.declared.Field.{Field}
use Rattle.line.proofs.Laws.{part}
use Rattle.row.specs.Row.{refused_at}
use Rattle.row.specs.Code.Walk.{kept_from}
use Rattle.line.proofs.Walk.{after_start, size, more, more_fit, last, within}
use Rattle.row.proofs.read_kept.Goals as goal

module _ (c : Context) (s : List ℕ) (at : ℕ) (h : at ≤ length s) (e : ℕ) (q : e ≡ field_end s at) (u : Rule)
    (m : u ≡ text free 200) (t : Field) (g : t ≡ read_field c u (take (e - at) (drop at s))) (i : ℕ) where
  read : t ≡ read_field c (text free 200) (slice at e s)
  read = g ∙ rw (m, part s at e (after_start s at h e q))

  taken : (fs : List (List ℕ)) → t.fault.number ≡ 0 → kept_from c i at (slice at e s ∷ fs) ≡ kept_from c (i + 1) (e + 1) fs
  unfolding kept_from
  taken fs z = rw (← read, eq-eqb t.fault.number 0 z, size s at h e q)

  wrong_before : (fs : List (List ℕ)) → (t.fault.number ≡ 0 → ⊥) → kept_from c i at (slice at e s ∷ fs) ≡ refused_at i t
  unfolding kept_from
  wrong_before fs z = rw (← read, ne_eqb t.fault.number 0 z)

  -- the field is refused,
  wrong_field : (t.fault.number ≡ 0 → ⊥) → kept_from c i at (fields_at s at) ≡ refused_at i t
  wrong_field z =
      split (line_ends s e) (λ l. rw (last s at h e q l) (wrong_before _ z)) (λ l. rw (more s at h e q l) (wrong_before _ z))

  -- is the last,
  last_field : t.fault.number ≡ 0 → line_ends s e ≡ true → kept_from c i at (fields_at s at) ≡ kept_from c (i + 1) (e + 1) []
  last_field z l = rw (last s at h e q l) (taken [] z)

  -- or has others after it.
  next_field : t.fault.number ≡ 0 → line_ends s e ≡ false →
      kept_from c i at (fields_at s at) ≡ kept_from c (i + 1) (e + 1) (fields_at s (e + 1))
  next_field z l = rw (more s at h e q l) (taken (fields_at s (e + 1)) z)

pub slice_bounds-read-count : goal.slice_bounds-read-count
slice_bounds-read-count c =
    let a = c.args in
    let l = c.loop-b in
    omega (arith, within a.s.now l.from l.invariant.0 c.field_end-to.result c.field_end-to.ensures)

pub slice_bounds-read-start : goal.slice_bounds-read-start
slice_bounds-read-start c =
    let a = c.args in
    let l = c.loop-b in
    omega (arith, within a.s.now l.from l.invariant.0 c.field_end-to.result c.field_end-to.ensures)

pub slice_bounds-read-end : goal.slice_bounds-read-end
slice_bounds-read-end c =
    let a = c.args in
    let l = c.loop-b in
    omega (arith, within a.s.now l.from l.invariant.0 c.field_end-to.result c.field_end-to.ensures)

pub returns-then-f-ne0 : goal.returns-then-f-ne0
returns-then-f-ne0 c =
    let a = c.args in
    let l = c.loop-b in
    let u = c.kept_rule in
    let r = c.read-f in
    c.refused.ensures
    ∙ sym (wrong_field (context a.b) a.s.now l.from l.invariant.0 c.field_end-to.result c.field_end-to.ensures u.result u.ensures r.result r.ensures l.i c.if-f-ne0.true)
    ∙ l.invariant.2

pub overflow_add-to : goal.overflow_add-to
overflow_add-to c =
    let a = c.args in
    let l = c.loop-b in
    omega (arith, within a.s.now l.from l.invariant.0 c.field_end-to.result c.field_end-to.ensures)

pub returns-then-line_ends : goal.returns-then-line_ends
unfolding kept_from
returns-then-line_ends c =
    let a = c.args in
    let l = c.loop-b in
    let u = c.kept_rule in
    let r = c.read-f in
    let ends = sym c.line_ends.ensures ∙ c.if-line_ends.true in
    c.fine.ensures
    ∙ sym (last_field (context a.b) a.s.now l.from l.invariant.0 c.field_end-to.result c.field_end-to.ensures u.result u.ensures r.result r.ensures l.i c.if-f-ne0.false ends)
    ∙ l.invariant.2

pub overflow_add-from : goal.overflow_add-from
overflow_add-from c =
    let a = c.args in
    let l = c.loop-b in
    omega (arith, within a.s.now l.from l.invariant.0 c.field_end-to.result c.field_end-to.ensures, more_fit a.s.now l.from l.invariant.0 c.field_end-to.result c.field_end-to.ensures (sym c.line_ends.ensures ∙ c.if-line_ends.false))

pub overflow_add-i : goal.overflow_add-i
overflow_add-i c =
    let a = c.args in
    let l = c.loop-b in
    omega (arith, within a.s.now l.from l.invariant.0 c.field_end-to.result c.field_end-to.ensures, more_fit a.s.now l.from l.invariant.0 c.field_end-to.result c.field_end-to.ensures (sym c.line_ends.ensures ∙ c.if-line_ends.false))

pub loop-b-smaller : goal.loop-b-smaller
loop-b-smaller c =
    let a = c.args in
    let l = c.loop-b in
    omega (arith, within a.s.now l.from l.invariant.0 c.field_end-to.result c.field_end-to.ensures, more_fit a.s.now l.from l.invariant.0 c.field_end-to.result c.field_end-to.ensures (sym c.line_ends.ensures ∙ c.if-line_ends.false))

pub loop-b-preserved : goal.loop-b-preserved
loop-b-preserved c =
    let a = c.args in
    let l = c.loop-b in
    let u = c.kept_rule in
    let r = c.read-f in
    let on = sym c.line_ends.ensures ∙ c.if-line_ends.false in (
      more_fit a.s.now l.from l.invariant.0 c.field_end-to.result c.field_end-to.ensures on,
      omega (arith, within a.s.now l.from l.invariant.0 c.field_end-to.result c.field_end-to.ensures),
      sym (next_field (context a.b) a.s.now l.from l.invariant.0 c.field_end-to.result c.field_end-to.ensures u.result u.ensures r.result r.ensures l.i c.if-f-ne0.false on) ∙ l.invariant.2,
    )
