-- The loop leaves the row as it was: that of the fields from there on, as many as are left of the count.
-- Assumes nothing.
use Prim.Native.Nat.{ℕ, ◌+◌, ◌-◌, ◌≤◌, ◌<◌}
use mathlib.Core.Path.{◌≡◌, refl, sym, ap, ◌∙◌}
use mathlib.Core.Bool.{true}
use mathlib.Core.List.{List, [], ◌∷◌}
use native.Mathlib.Nat.{zero-add}
use native.Mathlib.Omega.{arith}
use borrow.Author.Tests.{eq-eqb, ne_eqb, eqb-true, lt-ltb, le-ltb}
use lib.Dec.{eqb}
use lib.ListN.{length, get_or, set, take, drop}
use lib.Seq.{slice}
use Rattle.cells.proofs.Split.{split}
use Rattle.cells.proofs.Alike.{and_left, and_right}
use Rattle.line.specs.Fields.{field_end, fields_at, line_ends}
use Rattle.field.specs.Field.{Context, context, right, read_field}
use Rattle.field.specs.declared.Rule.{Rule}
use Rattle.field.specs.declared.Field.{Field}
use Rattle.field.proofs.Laws.{right_when}
use Rattle.line.proofs.Laws.{part}
use Rattle.row.specs.Row.{refused_at}
use Rattle.row.specs.Table.{no_rule}
use Rattle.row.specs.Code.Walk.{row_from, numbers_from, amounts_from, marks}
use Rattle.row.specs.declared.Row.{Row}
use Rattle.line.proofs.Walk.{after_start, size, more, more_fit, last, within, some}
use Rattle.row.proofs.read_typed.Invariants.{left}
use Rattle.row.proofs.read_typed.Goals as goal

left_some : (i count : ℕ) (s : List ℕ) (from : ℕ) → i < count → left i count s from ≡ fields_at s from
unfolding left
left_some i count s from h = rw (lt-ltb i count h)

left_none : (i count : ℕ) (s : List ℕ) (from : ℕ) → count ≤ i → left i count s from ≡ []
unfolding left
left_none i count s from h = rw (le-ltb i count h)

whole : (s : List ℕ) (at : ℕ) → at ≤ length s → (count : ℕ) → length (fields_at s at) ≡ count → left 0 count s at ≡ fields_at s at
whole s at h count k = left_some 0 count s at (omega (arith, some s at h))

module _ (s : List ℕ) (at : ℕ) (h : at ≤ length s) (e : ℕ) (q : e ≡ field_end s at) (i count : ℕ) (b : i < count)
    (n : i + length (left i count s at) ≡ count) where
  -- the field that ends next, and those after it
  parts : (left i count s at ≡ slice at e s ∷ left (i + 1) count s (e + 1)) × (i + 1 < count → e + 1 ≤ length s)
  parts =
      let k : left i count s at ≡ fields_at s at = left_some i count s at b in
      split (line_ends s e)
      (λ l.
      let w : left i count s at ≡ slice at e s ∷ [] = k ∙ last s at h e q l in
      let z : length (left i count s at) ≡ 1 = ap length w in
      (w ∙ rw (left_none (i + 1) count s (e + 1) (omega arith)), λ m. absurd (omega arith)))
      (λ l.
      let w : left i count s at ≡ slice at e s ∷ fields_at s (e + 1) = k ∙ more s at h e q l in
      let f : e + 1 ≤ length s = more_fit s at h e q l in
      let z : length (left i count s at) ≡ length (slice at e s ∷ fields_at s (e + 1)) = ap length w in
      (w ∙ rw (left_some (i + 1) count s (e + 1) (omega (arith, some s (e + 1) f))), λ m. f))

  -- it ends where it was noted to, and so do those after it
  noted : (ends : List ℕ) → marks ends i at (left i count s at) ≡ true →
      (get_or ends i 0 ≡ e) × (marks ends (i + 1) (e + 1) (left (i + 1) count s (e + 1)) ≡ true)
  unfolding marks
  noted ends t =
      let k = rw (parts.0, size s at h e q) at t in
      (eqb-true (get_or ends i 0) e (and_left (eqb (get_or ends i 0) e) _ k), and_right (eqb (get_or ends i 0) e) _ k)

  rest : i + 1 + length (left (i + 1) count s (e + 1)) ≡ count
  rest = let z = ap length parts.0 in omega (arith, z)

  module _ (c : Context) (rs : List Rule) (t : Field)
      (g : t ≡ read_field c (get_or rs i no_rule) (take (e - at) (drop at s))) where
    read : t ≡ read_field c (get_or rs i no_rule) (slice at e s)
    read = g ∙ rw (part s at e (after_start s at h e q))

    -- it is refused,
    wrong_field : (t.fault.number ≡ 0 → ⊥) → row_from c i at rs (left i count s at) ≡ refused_at (i + 1) t
    unfolding row_from
    wrong_field z = rw (parts.0, ← read, ne_eqb t.fault.number 0 z)

    -- or read.
    read_field_lem : t.fault.number ≡ 0 →
        row_from c i at rs (left i count s at) ≡ row_from c (i + 1) (e + 1) rs (left (i + 1) count s (e + 1))
    unfolding row_from
    read_field_lem z = rw (parts.0, ← read, eq-eqb t.fault.number 0 z, size s at h e q)

    -- What it is read as is what a right field is.
    is_right : t.fault.number ≡ 0 → t ≡ right (get_or rs i no_rule) (slice at e s)
    is_right z = read ∙ right_when c (get_or rs i no_rule) (slice at e s) (ap (λ (x : Field). x.fault.number) (sym read) ∙ z)

    number_noted : t.fault.number ≡ 0 → (ns : List ℕ) →
        numbers_from i rs (left i count s at) ns ≡ numbers_from (i + 1) rs (left (i + 1) count s (e + 1)) (set ns i t.n)
    unfolding numbers_from
    number_noted z ns = rw (parts.0, is_right z)

    amount_noted : t.fault.number ≡ 0 → (ms : List ℕ) →
        amounts_from i rs (left i count s at) ms ≡ amounts_from (i + 1) rs (left (i + 1) count s (e + 1)) (set ms i t.amount)
    unfolding amounts_from
    amount_noted z ms = rw (parts.0, is_right z)

-- where the next field was noted to end, it ends
end_noted : (s : List ℕ) (at : ℕ) → at ≤ length s → (i count : ℕ) → i < count → i + length (left i count s at) ≡ count → (ends : List ℕ) →
    marks ends i at (left i count s at) ≡ true → get_or ends i 0 ≡ field_end s at
end_noted s at h i count b n ends t = (noted s at h (field_end s at) refl i count b n ends t).0

pub loop-i-init : goal.loop-i-init
loop-i-init c =
    let a = c.args in
    let p = c.requires in
    let w : left 0 a.t.count a.s.now a.at ≡ fields_at a.s.now a.at = whole a.s.now a.at p.0 a.t.count p.2 in
    (omega arith, λ k. p.0, rw (w, zero-add) p.2, rw w, rw w p.3, rw w, rw w)

pub slice_bounds-read-count : goal.slice_bounds-read-count
slice_bounds-read-count c =
    let a = c.args in
    let l = c.loop-i in
    let b = c.loop-i-test.true in
    let q = end_noted a.s.now l.from (l.invariant.1 b) l.i a.t.count b l.invariant.2 a.ends.now l.invariant.4 in
    omega (arith, within a.s.now l.from (l.invariant.1 b) (get_or a.ends.now l.i 0) q)

pub slice_bounds-read-start : goal.slice_bounds-read-start
slice_bounds-read-start c =
    let a = c.args in
    let l = c.loop-i in
    let b = c.loop-i-test.true in
    let q = end_noted a.s.now l.from (l.invariant.1 b) l.i a.t.count b l.invariant.2 a.ends.now l.invariant.4 in
    omega (arith, within a.s.now l.from (l.invariant.1 b) (get_or a.ends.now l.i 0) q)

pub slice_bounds-read-end : goal.slice_bounds-read-end
slice_bounds-read-end c =
    let a = c.args in
    let l = c.loop-i in
    let b = c.loop-i-test.true in
    let q = end_noted a.s.now l.from (l.invariant.1 b) l.i a.t.count b l.invariant.2 a.ends.now l.invariant.4 in
    omega (arith, within a.s.now l.from (l.invariant.1 b) (get_or a.ends.now l.i 0) q)

pub returns-then-f-ne0 : goal.returns-then-f-ne0
returns-then-f-ne0 c =
    let a = c.args in
    let l = c.loop-i in
    let b = c.loop-i-test.true in
    let q = end_noted a.s.now l.from (l.invariant.1 b) l.i a.t.count b l.invariant.2 a.ends.now l.invariant.4 in
    let r = c.read-f in (
      c.refused.ensures
          ∙ sym (wrong_field a.s.now l.from (l.invariant.1 b) (get_or a.ends.now l.i 0) q l.i a.t.count b l.invariant.2 (context a.b) a.t.each r.result r.ensures c.if-f-ne0.true)
          ∙ l.invariant.3,
      λ z. absurd (c.if-f-ne0.true (ap (λ (x : Row). x.fault.number) (sym c.refused.ensures) ∙ z)),
    )

pub overflow_add-from : goal.overflow_add-from
overflow_add-from c =
    let a = c.args in
    let l = c.loop-i in
    let b = c.loop-i-test.true in
    let q = end_noted a.s.now l.from (l.invariant.1 b) l.i a.t.count b l.invariant.2 a.ends.now l.invariant.4 in
    omega (arith, within a.s.now l.from (l.invariant.1 b) (get_or a.ends.now l.i 0) q)

pub loop-i-preserved : goal.loop-i-preserved
loop-i-preserved c =
    let a = c.args in
    let l = c.loop-i in
    let b = c.loop-i-test.true in
    let q = end_noted a.s.now l.from (l.invariant.1 b) l.i a.t.count b l.invariant.2 a.ends.now l.invariant.4 in
    let e : ℕ = get_or a.ends.now l.i 0 in
    let r = c.read-f in (
      omega arith,
      (parts a.s.now l.from (l.invariant.1 b) e q l.i a.t.count b l.invariant.2).1,
      rest a.s.now l.from (l.invariant.1 b) e q l.i a.t.count b l.invariant.2,
      sym (read_field_lem a.s.now l.from (l.invariant.1 b) e q l.i a.t.count b l.invariant.2 (context a.b) a.t.each r.result r.ensures c.if-f-ne0.false) ∙ l.invariant.3,
      (noted a.s.now l.from (l.invariant.1 b) e q l.i a.t.count b l.invariant.2 a.ends.now l.invariant.4).1,
      sym (number_noted a.s.now l.from (l.invariant.1 b) e q l.i a.t.count b l.invariant.2 (context a.b) a.t.each r.result r.ensures c.if-f-ne0.false _) ∙ l.invariant.5,
      sym (amount_noted a.s.now l.from (l.invariant.1 b) e q l.i a.t.count b l.invariant.2 (context a.b) a.t.each r.result r.ensures c.if-f-ne0.false _) ∙ l.invariant.6,
    )

pub returns : goal.returns
unfolding row_from numbers_from amounts_from
returns c =
    let a = c.args in
    let l = c.loop-i in
    let w : left l.i a.t.count a.s.now l.from ≡ [] = left_none l.i a.t.count a.s.now l.from c.loop-i-test.false in
    (c.fine.ensures ∙ rw w at l.invariant.3, λ z. (rw w at l.invariant.5, rw w at l.invariant.6))
