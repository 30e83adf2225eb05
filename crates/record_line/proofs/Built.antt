-- A record built from what was read of its fields is the record of document 01.
-- Assumes nothing.
use Prim.Native.Nat.{ℕ, ◌+◌, ◌-◌, ◌≤◌, ◌<◌}
use mathlib.Core.Path.{◌≡◌, refl, sym, ap, ap₂, ◌∙◌, subst}
use mathlib.Core.Bool.{Bool, true, cond}
use mathlib.Core.List.{List, [], ◌∷◌, ◌++◌}
use native.Mathlib.Omega.{arith}
use borrow.Author.Tests.{eqb-true, eqb-false, eq-eqb, ne_eqb}
use lib.Dec.{eqb}
use lib.ListN.{length, get_or, drop, length-append, length-drop}
use Rattle.cells.proofs.Split.{split as cases}
use Rattle.line.specs.Fields.{join, line, nth, fields_at}
use Rattle.line.proofs.Laws.{join_split}
use Rattle.date.specs.Date.{read_date}
use Rattle.usage.specs.Usage.{read_usage}
use Rattle.supplement.specs.Supplement.{read_supplement}
use Rattle.field.specs.Field.{Context, right, read_field}
use Rattle.field.specs.declared.Rule.{Rule}
use Rattle.field.specs.declared.Before.{Before}
use Rattle.row.specs.Table.{typed, rules, rules_from, counted, no_rule}
use Rattle.row.specs.Row.{fine, field_by_field, read_row, numbers, amounts, ends, zeros, in_cells, numbers_of, amounts_of, ends_of}
use Rattle.row.specs.declared.Row.{Row}
use Rattle.line.proofs.Walk.{inside}
use Rattle.row.proofs.Each.{as_many}
use Rattle.record.specs.Record.{text_at, number_of, leaves, after, date_in, usage_in, supplement_in, record_from}
use Rattle.record_line.specs.Fields.{offset, place_of, record_of}
use Rattle.record_line.specs.Line.{row_refusal, passed_of}
use Rattle.record_line.specs.Code.Built.{first_place, built_of, row_record, sofar, refused_line, took_line, fields_line}
use Rattle.record.specs.declared.Place.{Place}
use Rattle.record.specs.declared.Sofar.{Sofar}
use Rattle.record.specs.declared.Record.{Record}
use Rattle.record.specs.declared.Record.TheVariants.{Issue, Rp, Usage, Supplement as Supply, Drug, Kept}
use Rattle.record.specs.declared.Line.{Line}
use Rattle.record_line.proofs.Stands.{stands}
use Rattle.record_line.proofs.Cells.{number_cell, amount_cell, end_cell, place_cells, ends_most}
use Rattle.std.specs.Prelude.{Ok}

-- ---- a row that is right

module _ (c : Context) where
  by_field : (rs : List Rule) (fs : List (List ℕ)) (k : ℕ) (w : Row) → (field_by_field c k rs fs w).fault.number ≡ 0 → field_by_field c k rs fs w ≡ w
  unfolding field_by_field
  by_field [] fs k w z = refl
  by_field (r ∷ rs) [] k w z = refl
  by_field (r ∷ rs) (f ∷ fs) k w z =
      cases (eqb (read_field c r f).fault.number 0) (λ e. simp e (by_field rs fs (k + 1) w (simp e at z)))
      (λ e. absurd (eqb-false (read_field c r f).fault.number 0 e (simp e at z)))

  pub right_row : (n at : ℕ) (fs : List (List ℕ)) → (read_row c n at fs).fault.number ≡ 0 →
      read_row c n at fs ≡ fine (at + length (join fs) + 1)
  unfolding read_row
  right_row n at fs z =
      cases (counted n fs) (λ e. simp e (by_field (rules n fs) fs 1 (fine (at + length (join fs) + 1)) (simp e at z)))
      (λ e. absurd (let y : ◌≡◌ {A = ℕ} 25 0 = simp e at z in omega arith))

-- ---- the line's fields stand in the file

line_part : (s : List ℕ) → s ≡ line s ++ drop (length (line s)) s
unfolding line
line_part [] = refl
line_part (b ∷ s) = cases (eqb b 0x0d) (λ e. simp e) (λ e. simp e (ap (λ (t : List ℕ). b ∷ t) (line_part s)))

fields_stand : (s : List ℕ) (at : ℕ) → at ≤ length s → (k : ℕ) → k - 1 < length (fields_at s at) → text_at s (place_of at k (fields_at s at)) ≡ nth k (fields_at s at)
fields_stand s at h k m =
    let l : List ℕ = line (drop at s) in
    let e : join (fields_at s at) ≡ l = ap join (inside s at h) ∙ join_split l in
    stands s at (fields_at s at) (drop (length l) (drop at s)) (line_part (drop at s) ∙ ap (λ (x : List ℕ). x ++ drop (length l) (drop at s)) (sym e)) k m

-- and end in it
pub fields_end : (s : List ℕ) (at : ℕ) → at ≤ length s → at + length (join (fields_at s at)) ≤ length s
fields_end s at h =
    let l : List ℕ = line (drop at s) in
    let e : join (fields_at s at) ≡ l = ap join (inside s at h) ∙ join_split l in
    omega (arith, ap length e, ap length (line_part (drop at s)), length-append l (drop (length l) (drop at s)), length-drop at s)

-- where a row that is right ends
pub row_after : (c : Context) (n from : ℕ) (fs : List (List ℕ)) (w : Row) → w ≡ read_row c n from fs → w.fault.number ≡ 0 →
    w.after ≡ from + length (join fs) + 1
row_after c n from fs w e z =
    ap (λ (r : Row). r.after) (e ∙ right_row c n from fs (ap (λ (r : Row). r.fault.number) (sym e) ∙ z))

-- ---- record by record

module _ (c : Context) (s : List ℕ) (from : ℕ) (h : from ≤ length s) where
  abbrev fs : List (List ℕ)
  fs = fields_at s from

  -- the cells of a typed record
  abbrev ns : ℕ → List ℕ
  ns n = in_cells (numbers (rules n fs) fs)

  abbrev ms : ℕ → List ℕ
  ms n = in_cells (amounts (rules n fs) fs)

  abbrev es : List ℕ
  es = in_cells (ends from fs)

  -- The record that was built is the record.
  abbrev Is : ℕ → Type 0
  Is n = (read_row c n from fs).fault.number ≡ 0 → (to : ℕ) → built_of n s (ns n) (ms n) es (record { from = from; to = to }) ≡ record_of n from fs

  -- what was read of the field with k before it
  abbrev Cell : ℕ → ℕ → Type 0
  Cell n k = get_or (ns n) k 0 ≡ (right (get_or (rules n fs) k no_rule) (get_or fs k [])).n

  -- and its place
  abbrev placed : ℕ → Place
  placed k = record { from = from + offset k fs; to = from + offset k fs + length (get_or fs k []) }

  module _ (n m : ℕ) (z : (read_row c n from fs).fault.number ≡ 0) (l : length (rules n fs) ≡ m) where
    its : (k : ℕ) → k < m → Cell n k
    its k i = let a = as_many c n from fs z in number_cell (rules n fs) fs k (omega (arith, a, l)) a

    its_amount : (k : ℕ) → k < m → get_or (ms n) k 0 ≡ (right (get_or (rules n fs) k no_rule) (get_or fs k [])).amount
    its_amount k i = let a = as_many c n from fs z in amount_cell (rules n fs) fs k (omega (arith, a, l)) a

    its_place : (k : ℕ) → 1 ≤ k → k < m → ◌≡◌ {A = Place} (record { from = get_or es (k - 1) 0 + 1; to = get_or es k 0 }) (placed k)
    its_place k o i = place_cells from fs k o (omega (arith, as_many c n from fs z, l))

    -- and its bytes
    bytes : (k : ℕ) → k < m → text_at s (placed k) ≡ get_or fs k []
    bytes k i =
        let a = as_many c n from fs z in
        let e : k + 1 - 1 ≡ k = omega arith in
        subst (λ (i : ℕ). text_at s (record { from = from + offset i fs; to = from + offset i fs + length (get_or fs i []) }) ≡ get_or fs i []) e
        (fields_stand s from h (k + 1) (omega (arith, a, l)))

    its_bytes : (k : ℕ) → 1 ≤ k → k < m → text_at s (record { from = get_or es (k - 1) 0 + 1; to = get_or es k 0 }) ≡ get_or fs k []
    its_bytes k o i = ap (text_at s) (its_place k o i) ∙ bytes k i

    first_bytes : 1 ≤ m → text_at s (first_place from es) ≡ get_or fs 0 []
    unfolding offset
    first_bytes o =
        let e : get_or es 0 0 ≡ from + 0 + length (get_or fs 0 []) = end_cell from fs 0 (omega (arith, as_many c n from fs z, l)) in
        let f : from ≡ from + 0 = omega arith in
        ap₂ (λ (x y : ℕ). text_at s (record { from = x; to = y })) f e ∙ bytes 0 (omega arith)

  at51 : Is 51
  unfolding built_of record_of record_from rules rules_from typed
  at51 z p = let b1 = first_bytes 51 1 z refl (omega arith) in λ j. Issue (record { date = date_in (read_date (b1 j)) })

  at101 : Is 101
  unfolding built_of record_of record_from rules rules_from typed
  at101 z p =
      let e : (k : ℕ) → k < 4 → Cell 101 k = its 101 4 z refl in
      let e1 = e 0 (omega arith) in
      let e2 = e 1 (omega arith) in
      let p3 = its_place 101 4 z refl 2 (omega arith) (omega arith) in
      let e4 = e 3 (omega arith) in
      λ j. Rp (record { rp = record { 0 = e1 j }; form = e2 j; name = p3 j; quantity = e4 j })

  at111 : Is 111
  unfolding built_of record_of record_from rules rules_from typed
  at111 z p =
      let e : (k : ℕ) → k < 5 → Cell 111 k = its 111 5 z refl in
      let e1 = e 0 (omega arith) in
      let e2 = e 1 (omega arith) in
      let b3 = its_bytes 111 5 z refl 2 (omega arith) (omega arith) in
      let p4 = its_place 111 5 z refl 3 (omega arith) (omega arith) in
      let e5 = e 4 (omega arith) in
      λ j. Usage
      (record { rp = record { 0 = e1 j }; kind = e2 j; code = usage_in (read_usage (b3 j)); name = p4 j; times = e5 j })

  at181 : Is 181
  unfolding built_of record_of record_from rules rules_from typed
  at181 z p =
      let e : (k : ℕ) → k < 6 → Cell 181 k = its 181 6 z refl in
      let e1 = e 0 (omega arith) in
      let e2 = e 1 (omega arith) in
      let e3 = e 2 (omega arith) in
      let p4 = its_place 181 6 z refl 3 (omega arith) (omega arith) in
      let b5 = its_bytes 181 6 z refl 4 (omega arith) (omega arith) in
      let p6 = its_place 181 6 z refl 5 (omega arith) (omega arith) in
      λ j. Supply
      (record {
        rp = record { 0 = e1 j };
        serial = record { 0 = e2 j };
        kind = e3 j;
        text = p4 j;
        code = supplement_in (read_supplement (b5 j));
        site = p6 j;
      })

  at201 : Is 201
  unfolding built_of record_of record_from rules rules_from typed
  at201 z p =
      let e : (k : ℕ) → k < 9 → Cell 201 k = its 201 9 z refl in
      let e1 = e 0 (omega arith) in
      let e2 = e 1 (omega arith) in
      let e3 = e 2 (omega arith) in
      let e4 = e 3 (omega arith) in
      let p5 = its_place 201 9 z refl 4 (omega arith) (omega arith) in
      let p6 = its_place 201 9 z refl 5 (omega arith) (omega arith) in
      let a7 = its_amount 201 9 z refl 6 (omega arith) in
      let e8 = e 7 (omega arith) in
      let p9 = its_place 201 9 z refl 8 (omega arith) (omega arith) in
      λ j. Drug
      (record {
        rp = record { 0 = e1 j };
        serial = record { 0 = e2 j };
        kind = e3 j;
        coding = e4 j;
        code = p5 j;
        name = p6 j;
        amount = a7 j;
        flag = e8 j;
        unit = p9 j;
      })

  abbrev Goal : ℕ → Type 0
  Goal n = row_record n s from (fine (from + length (join fs) + 1)) ≡ record_of n from fs

  -- one of the table's records
  listed : (n m : ℕ) → (read_row c n from fs).fault.number ≡ 0 → eqb n m ≡ true → typed m ≡ true → Is m → Goal n
  listed n m z b t i =
      let e : n ≡ m = eqb-true n m b in
      subst Goal (sym e) (rw t (i (subst (λ (k : ℕ). (read_row c k from fs).fault.number ≡ 0) e z) (from + length (join fs) + 1 - 1)))

  by_number : (n : ℕ) → (read_row c n from fs).fault.number ≡ 0 → Goal n
  unfolding built_of record_of record_from typed
  by_number n z =
      cases (eqb n 51) (λ e. listed n 51 z e refl at51)
      (λ a.
      cases (eqb n 101) (λ e. listed n 101 z e refl at101)
      (λ b.
      cases (eqb n 111) (λ e. listed n 111 z e refl at111)
      (λ d.
      cases (eqb n 181) (λ e. listed n 181 z e refl at181)
      (λ f.
      cases (eqb n 201) (λ e. listed n 201 z e refl at201)
      (λ g. let k : from + length (join fs) + 1 - 1 ≡ from + length (join fs) = omega arith in
      simp (a, b, d, f, g) (ap (λ (x : ℕ). Kept (record { number = n; fields = record { from = from; to = x } })) k))))))

  -- A line's record from the row of its fields.
  pub built : (n : ℕ) → (read_row c n from fs).fault.number ≡ 0 → row_record n s from (read_row c n from fs) ≡ record_of n from fs
  built n z = ap (row_record n s from) (right_row c n from fs z) ∙ by_number n z

-- ---- the line of a row

-- a record that is built has the number that it is built by
built_number : (n : ℕ) (s ns ms es : List ℕ) (p : Place) → number_of (built_of n s ns ms es p) ≡ n
unfolding built_of record_of record_from
built_number n s ns ms es p =
    cases (eqb n 51) (λ e. simp e (sym (eqb-true n 51 e)))
    (λ a.
    cases (eqb n 101) (λ e. simp (a, e) (sym (eqb-true n 101 e)))
    (λ b.
    cases (eqb n 111) (λ e. simp (a, b, e) (sym (eqb-true n 111 e)))
    (λ d.
    cases (eqb n 181) (λ e. simp (a, b, d, e) (sym (eqb-true n 181 e)))
    (λ f. cases (eqb n 201) (λ e. simp (a, b, d, f, e) (sym (eqb-true n 201 e))) (λ e. simp (a, b, d, f, e))))))

-- The row is right: the record that was built of what was noted, and what it leaves.
module _ (b : Before) (n : ℕ) (s : List ℕ) (from : ℕ) (w : Row) (ns ms es : List ℕ) (p : ns ≡ numbers_of n w (fields_at s from) zeros)
    (q : ms ≡ amounts_of n w (fields_at s from) zeros) (v : es ≡ ends_of n w from (fields_at s from) zeros) where
  noted_record : built_of n s ns ms es (record { from = from; to = w.after - 1 }) ≡ row_record n s from w
  noted_record = λ j. built_of n s (p j) (q j) (v j) (record { from = from; to = w.after - 1 })

  pub took_line_lem : (r : Record) → r ≡ built_of n s ns ms es (record { from = from; to = w.after - 1 }) → (t : Sofar) → t ≡ after b r →
      ◌≡◌ {A = Line} (record { answer = Ok r; next = w.after + 1; sofar = t }) (took_line b n s from w)
  took_line_lem r e t f =
      let x = e ∙ noted_record in
      let y = f ∙ ap (after b) x in
      λ j. record { answer = Ok (x j); next = w.after + 1; sofar = y j }

  module _ (t : Before) (f : t ≡ leaves b (built_of n s ns ms es (record { from = from; to = w.after - 1 }))) where
    left_after : ◌≡◌ {A = Sofar} (record { last = n; before = t }) (after b (row_record n s from w))
    left_after =
        let m = sym (built_number n s ns ms es (record { from = from; to = w.after - 1 })) in
        (λ j. record { last = m j; before = f j }) ∙ ap (after b) noted_record

    pub took_on : Ok (record { sofar = record { last = n; before = t }; next = w.after + 1 }) ≡ passed_of (took_line b n s from w)
    took_on = let y = left_after in λ j. Ok (record { sofar = y j; next = w.after + 1 })

module _ (last : ℕ) (c : Context) (s : List ℕ) (at n from : ℕ) (w : Row) (e : w ≡ read_row c n from (fields_at s from)) where
  abbrev either : Bool → Line
  either b =
      cond b (took_line c.before n s from (read_row c n from (fields_at s from))) (refused_line (sofar last c) (row_refusal at (read_row c n from (fields_at s from))))

  pub right_line : w.fault.number ≡ 0 → took_line c.before n s from w ≡ fields_line last c s at n from
  unfolding fields_line
  right_line z =
      sym (ap either (eq-eqb (read_row c n from (fields_at s from)).fault.number 0 (ap (λ (r : Row). r.fault.number) (sym e) ∙ z))
      ∙ ap (took_line c.before n s from) (sym e))

  -- it is not
  pub wrong_line : (w.fault.number ≡ 0 → ⊥) → refused_line (sofar last c) (row_refusal at w) ≡ fields_line last c s at n from
  unfolding fields_line
  wrong_line z =
      sym (ap either (ne_eqb (read_row c n from (fields_at s from)).fault.number 0 (λ y. z (ap (λ (r : Row). r.fault.number) e ∙ y)))
      ∙ ap (λ (r : Row). refused_line (sofar last c) (row_refusal at r)) (sym e))

-- The ends that were noted are within the file.
pub ends_within : (s : List ℕ) (n from : ℕ) → from ≤ length s → (w : Row) (es : List ℕ) → es ≡ ends_of n w from (fields_at s from) zeros → (k : ℕ) →
    get_or es k 0 ≤ length s
ends_within s n from h w es v k =
    let e : get_or es k 0 ≡ get_or (ends_of n w from (fields_at s from) zeros) k 0 = ap (λ (x : List ℕ). get_or x k 0) v in
    omega (arith, e, ends_most n w from (fields_at s from) k, fields_end s from h)
