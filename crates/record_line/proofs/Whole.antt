-- A line read along the file is the line of document 01.
-- Assumes nothing.
use Prim.Native.Nat.{ℕ, ◌+◌, ◌≤◌, ◌<◌}
use mathlib.Core.Path.{◌≡◌, refl, sym, ap, ap₂, ◌∙◌}
use mathlib.Core.Bool.{true, false}
use mathlib.Core.List.{List, [], ◌∷◌}
use native.Mathlib.Omega.{arith}
use borrow.Author.Tests.{eq-eqb, ne_eqb, eqb-true, eqb-false}
use lib.Dec.{eqb}
use lib.ListN.{length, length-append}
use lib.Seq.{slice}
use Rattle.cells.proofs.Split.{split as cases}
use Rattle.line.specs.Fields.{join, field_end, fields_at, line_ends}
use Rattle.number.specs.Number.{read_number, shortest}
use Rattle.order.specs.Order.{some as Some-of, header, directions, drug, records}
use Rattle.order.specs.Next.{follow}
use Rattle.field.specs.Field.{Context}
use Rattle.row.specs.Table.{counted}
use Rattle.row.specs.Row.{read_row}
use Rattle.row.specs.declared.Row.{Row}
use Rattle.line.proofs.Walk.{outside, first, more, last, more_fit, size, some}
use Rattle.record_line.specs.Line.{refusal, from_row, read_fields, number_in, record_number, read_parts, line_after, line_at}
use Rattle.record_line.specs.Code.Built.{sofar, refused_line, fields_line, Heads}
use Rattle.record.specs.declared.Refusal.{Refusal}
use Rattle.record_line.specs.declared.Head.{Head}
use Rattle.record_line.proofs.Built.{right_row, built, right_line, wrong_line}
use Rattle.std.specs.Prelude.{Err, Ok, Result}

-- the fields after the first, with its comma
join_more : (f : List ℕ) (fs : List (List ℕ)) → 1 ≤ length fs → length (join (f ∷ fs)) ≡ length f + 1 + length (join fs)
unfolding join
join_more f [] h = absurd (omega arith)
join_more f (g ∷ fs) h = omega (arith, length-append f (0x2c ∷ join (g ∷ fs)))

module _ (last-number : ℕ) (c : Context) (s : List ℕ) (at : ℕ) where
  -- a line with a number that may not stand here
  wrong_number : (parts : List (List ℕ)) (n v : ℕ) → record_number parts ≡ n → v ≡ follow last-number n → (v ≡ 0 → ⊥) →
      read_parts last-number c at parts ≡ Err (refusal v at)
  unfolding read_parts read_fields
  wrong_number parts n v e f z = rw (e, ← f, ne_eqb v 0 z)

  -- no number at all
  no_number : record_number [] ≡ 0
  unfolding read_number shortest
  no_number = refl

  unknown : 23 ≡ follow last-number 0
  unfolding follow Some-of records header directions drug
  unknown = refl

  -- outside the file
  nowhere : length s < at → refused_line (sofar last-number c) (refusal 23 at) ≡ line_at last-number c s at
  unfolding line_at
  nowhere h =
      let p : read_parts last-number c at (fields_at s at) ≡ Err (refusal 23 at) =
      ap (read_parts last-number c at) (outside s at h) ∙ wrong_number [] 0 23 no_number unknown (λ z. omega arith) in
      rw p

  module _ (h : at ≤ length s) (e : ℕ) (q : e ≡ field_end s at) (n : ℕ) (g : n ≡ number_in (read_number 1 999 (slice at e s))) where
    number_is : record_number (fields_at s at) ≡ n
    number_is = ap (λ (f : List ℕ). number_in (read_number 1 999 f)) (first s at h e q) ∙ sym g

    refused_number : (v : ℕ) → v ≡ follow last-number n → (v ≡ 0 → ⊥) → refused_line (sofar last-number c) (refusal v at) ≡ line_at last-number c s at
    unfolding line_at
    refused_number v f z = rw (wrong_number (fields_at s at) n v number_is f z)

    module _ (v : ℕ) (f : v ≡ follow last-number n) (z : v ≡ 0) where
      -- the number may stand: by the fields
      by_fields : (fs : List (List ℕ)) → fields_at s at ≡ slice at e s ∷ fs → read_parts last-number c at (fields_at s at) ≡ from_row at n (e + 1) fs (read_row c n (e + 1) fs)
      unfolding read_parts read_fields
      by_fields fs p =
          let k : at + length (slice at e s) + 1 ≡ e + 1 = omega (arith, size s at h e q) in
          let r : record_number (slice at e s ∷ fs) ≡ n = sym g in
          ap (read_parts last-number c at) p ∙ rw (r, k, ← f, eq-eqb v 0 z)

      no_fields : line_ends s e ≡ true → refused_line (sofar last-number c) (refusal 25 at) ≡ line_at last-number c s at
      unfolding line_at read_row counted
      no_fields l = rw (by_fields [] (last s at h e q l))

      with_fields : line_ends s e ≡ false → fields_line last-number c s at n (e + 1) ≡ line_at last-number c s at
      unfolding line_at
      with_fields l =
          let fs : List (List ℕ) = fields_at s (e + 1) in
          let i : e + 1 ≤ length s = more_fit s at h e q l in
          let p : fields_at s at ≡ slice at e s ∷ fs = more s at h e q l in
          let w : Row = read_row c n (e + 1) fs in
          let a = by_fields fs p in
          cases (eqb (read_row c n (e + 1) fs).fault.number 0)
          (λ y.
          let r = right_row c n (e + 1) fs (eqb-true _ _ y) in
          let u : (read_row c n (e + 1) fs).after + 1 ≡ at + length (join (fields_at s at)) + 2 =
          omega (arith, ap (λ (x : Row). x.after) r, ap (λ (x : List (List ℕ)). length (join x)) p, join_more (slice at e s) fs (some s (e + 1) i), size s at h e q) in
          sym (right_line last-number c s at n (e + 1) w refl (eqb-true _ _ y))
          ∙ ap₂ (line_after (sofar last-number c)) (ap Ok (built c s (e + 1) i n (eqb-true _ _ y))) u
          ∙ rw (a, y))
          (λ y. sym (wrong_line last-number c s at n (e + 1) w refl (eqb-false _ _ y)) ∙ rw (a, y))

-- What a line begins with, by what its number is told.
module _ (last : ℕ) (s : List ℕ) (at : ℕ) where
  -- a refusal before the fields
  stopped : (f : Refusal) → ((c : Context) → refused_line (sofar last c) f ≡ line_at last c s at) → Heads last s at (Err f)
  stopped f l = record { line = l; inside = λ h e. absurd (let z : ◌≡◌ {A = ℕ} 0 1 = cc in omega arith) }

  pub head_nowhere : length s < at → Heads last s at (Err (refusal 23 at))
  head_nowhere h = stopped _ (λ c. nowhere last c s at h)

  module _ (h : at ≤ length s) (e : ℕ) (q : e ≡ field_end s at) (n : ℕ) (g : n ≡ number_in (read_number 1 999 (slice at e s))) (v : ℕ) (f : v ≡ follow last n) where
    pub head_refused : (v ≡ 0 → ⊥) → Heads last s at (Err (refusal v at))
    head_refused z = stopped _ (λ c. refused_number last c s at h e q n g v f z)

    pub head_bare : v ≡ 0 → line_ends s e ≡ true → Heads last s at (Err (refusal 25 at))
    head_bare z l = stopped _ (λ c. no_fields last c s at h e q n g v f z l)

    pub head_fields : v ≡ 0 → line_ends s e ≡ false → Heads last s at (Ok (record { number = n; from = e + 1 }))
    head_fields z l =
        record {
          line = λ c. with_fields last c s at h e q n g v f z l;
          inside = λ k y. let x : e + 1 ≡ k.from = (let u : ◌≡◌ {A = Result Head Refusal} (Ok (record { number = n; from = e + 1 })) (Ok k) = y in cc) in omega (arith, more_fit s at h e q l);
        }
