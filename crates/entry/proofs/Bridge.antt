-- What is wrong with a record's parts, judged one by one, is what the reader says of its line.
-- Assumes nothing.
use Prim.Native.Nat.{ℕ, ◌+◌, ◌≤◌}
use mathlib.Core.Path.{◌≡◌, refl, ◌∙◌, sym, ap}
use mathlib.Core.Bool.{Bool, true, false, cond, ◌&&◌}
use mathlib.Core.List.{List, [], ◌∷◌, ◌++◌, map}
use native.Mathlib.Omega.{arith}
use borrow.Author.Tests.{eqb-true, eqb-false, eq-eqb, le-leb}
use lib.Dec.{eqb, leb}
use lib.ListN.{length, get_or, drop, length-map}
use Rattle.text.specs.Lent.{no_field, text_or}
use Rattle.cells.proofs.Split.{split as cases}
use Rattle.line.specs.Fields.{split, push, join}
use Rattle.number.specs.Number.{figure, figures, value, shortest, read_number}
use Rattle.number.specs.Print.{digits, print_number}
use Rattle.order.specs.Order.{some, each, among, header, directions, drug, records}
use Rattle.order.specs.Next.{follow}
use Rattle.order.proofs.Lists.{every}
use Rattle.field.specs.Field.{Context, read_field}
use Rattle.field.specs.declared.Rule.{Rule}
use Rattle.row.specs.Table.{typed, kept_rule, rules_of, rules, counted}
use Rattle.row.specs.Row.{field_by_field, read_row}
use Rattle.row.specs.declared.Row.{Row}
use Rattle.laid.specs.Laid.{Laid}
use Rattle.record_line.specs.Line.{refusal, row_refusal, from_row, read_fields, record_number, read_parts}
use Rattle.record.specs.declared.Refusal.{Refusal}
use Rattle.held.proofs.Numbers.{number_value}
use Rattle.entry.specs.Entry.{number_in}
use Rattle.entry.specs.Code.Judge.{wrong_typed, texts_wrong, wrong_in}
use Rattle.std.specs.Prelude.{Err}

-- ---- the record's number, as it is written and read
-- a number is read as itself, or as none
reads : {P : Type 0} (n : ℕ) (fs : List (List ℕ)) → (record_number (print_number n ∷ fs) ≡ n → P) → (record_number (print_number n ∷ fs) ≡ 0 → P) → P
unfolding read_number
reads n fs f g =
    cases (shortest (print_number n) && (leb 1 (value 0 (print_number n)) && leb (value 0 (print_number n)) 999))
    (λ e. f (rw e (number_value n))) (λ e. g (rw e))

-- every record's number is read as itself
reads_known : each (λ n. eqb (record_number (print_number n ∷ [])) n) records ≡ true
unfolding each records header directions drug read_number shortest figures figure value print_number digits
reads_known = refl

-- and 0 is none of them
no_0 : among records 0 ≡ false
unfolding some records header directions drug
no_0 = refl

-- ---- the fields of a kept record
-- a line has one field or more,
pushed : (b : ℕ) (fs : List (List ℕ)) → 1 ≤ length (push b fs)
unfolding push
pushed b [] = omega arith
pushed b (f ∷ fs) = omega arith

pub some_field : (s : List ℕ) → 1 ≤ length (split s)
unfolding split
some_field [] = omega arith
some_field (b ∷ s) = cases (eqb b 0x2c) (λ e. simp e (omega arith)) (λ e. simp e (pushed b (split s)))

-- after each of which but the last a comma stands
pub join_more : (f : List ℕ) (fs : List (List ℕ)) → 1 ≤ length fs → join (f ∷ fs) ≡ f ++ 0x2c ∷ join fs
unfolding join
join_more f [] l = absurd (omega arith)
join_more f (g ∷ fs) l = refl

-- ---- the first wrong field
module _ (last : ℕ) (c : Context) where
  -- the number of the first wrong field, 0 where there is none
  unfoldable pub first_wrong : List Rule → List (List ℕ) → ℕ
  first_wrong [] fs = 0
  first_wrong (r ∷ rs) [] = 0
  first_wrong (r ∷ rs) (f ∷ fs) = cond (eqb (read_field c r f).fault.number 0) (first_wrong rs fs) (read_field c r f).fault.number

  -- is what "field by field" tells,
  by_field : (k : ℕ) (rs : List Rule) (fs : List (List ℕ)) (w : Row) → w.fault.number ≡ 0 → (field_by_field c k rs fs w).fault.number ≡ first_wrong rs fs
  unfolding field_by_field first_wrong
  by_field k [] fs w h = h
  by_field k (r ∷ rs) [] w h = h
  by_field k (r ∷ rs) (f ∷ fs) w h =
      cases (eqb (read_field c r f).fault.number 0) (λ e. simp e (by_field (k + 1) rs fs w h)) (λ e. simp e)

  -- what is wrong with the fields of a record, wherever they stand
  abbrev pub row_wrong : ℕ → List (List ℕ) → ℕ
  row_wrong n fs = cond (counted n fs) (first_wrong (rules n fs) fs) 25

  by_row : (n at : ℕ) (fs : List (List ℕ)) → (read_row c n at fs).fault.number ≡ row_wrong n fs
  unfolding read_row
  by_row n at fs = cases (counted n fs) (λ e. simp e (by_field 1 (rules n fs) fs _ refl)) (λ e. simp e)

  -- and with the record
  abbrev pub record_wrong : ℕ → List (List ℕ) → ℕ
  record_wrong n fs = cond (eqb (follow last n) 0) (row_wrong n fs) (follow last n)

  from_row_lem : (at n from : ℕ) (fs : List (List ℕ)) (w : Row) → number_in (from_row at n from fs w) ≡ w.fault.number
  from_row_lem at n from fs w = cases (eqb w.fault.number 0) (λ e. simp e (sym (eqb-true _ _ e))) (λ e. simp e)

  by_fields : (at n from : ℕ) (fs : List (List ℕ)) → number_in (read_fields last c at n from fs) ≡ record_wrong n fs
  unfolding read_fields
  by_fields at n from fs =
      cases (eqb (follow last n) 0) (λ e. simp e (from_row_lem at n from fs (read_row c n from fs) ∙ by_row n from fs)) (λ e. simp e)

  -- The reader's number goes by the record's number and its fields alone.
  pub by_parts : (at : ℕ) (ps : List (List ℕ)) → number_in (read_parts last c at ps) ≡ record_wrong (record_number ps) (drop 1 ps)
  unfolding read_parts
  by_parts at ps = by_fields at (record_number ps) _ (drop 1 ps)

  -- a number that is none of theirs is told so
  unknown : (n : ℕ) (fs : List (List ℕ)) → among records n ≡ false → record_wrong n fs ≡ 23
  unfolding follow
  unknown n fs e = simp e

  -- so the reader says of a number and its fields what is wrong with them.
  pub by_number : (at n : ℕ) (fs : List (List ℕ)) → number_in (read_parts last c at (print_number n ∷ fs)) ≡ record_wrong n fs
  by_number at n fs =
      let same : (m : ℕ) → m ≡ n → record_wrong m fs ≡ record_wrong n fs = λ m e. ap (λ (k : ℕ). record_wrong k fs) e in
      by_parts at (print_number n ∷ fs)
      ∙ cases (among records n)
      (λ e. same _ (eqb-true _ _ (every (λ m. eqb (record_number (print_number m ∷ [])) m) records reads_known n e)))
      (λ e. reads n fs (λ r. same _ r) (λ r. ap (λ (k : ℕ). record_wrong k fs) r ∙ unknown 0 fs no_0 ∙ sym (unknown n fs e)))

  -- So it does of parts in which the same is wrong as in the fields.
  judged : (lent : List ℕ) (at n : ℕ) (p : Laid) (fs : List (List ℕ)) →
      cond (typed n) (wrong_typed c lent n p) (texts_wrong c (split (text_or lent no_field (get_or p.from 1 0) (get_or p.to 1 0)))) ≡ row_wrong n fs →
      wrong_in last c lent n p ≡ number_in (read_parts last c at (print_number n ∷ fs))
  unfolding wrong_in
  judged lent at n p fs e = ap (λ (w : ℕ). cond (eqb (follow last n) 0) w (follow last n)) e ∙ sym (by_number at n fs)

  -- ---- a typed record
  -- What is wrong with a typed record that has as many fields as its table.
  pub typed_wrong : (lent : List ℕ) (at n : ℕ) (p : Laid) (fs : List (List ℕ)) → typed n ≡ true → 1 ≤ length fs → length fs ≡ length (rules_of n fs) →
      wrong_typed c lent n p ≡ first_wrong (rules_of n fs) fs → wrong_in last c lent n p ≡ number_in (read_parts last c at (print_number n ∷ fs))
  unfolding rules counted
  typed_wrong lent at n p fs t least l w =
      let r : rules n fs ≡ rules_of n fs = rw t in
      let v : row_wrong n fs ≡ first_wrong (rules_of n fs) fs =
      rw (r, le-leb 1 (length fs) least, eq-eqb (length fs) (length (rules_of n fs)) l) in
      judged lent at n p fs
      (ap (λ (b : Bool). cond b (wrong_typed c lent n p) (texts_wrong c (split (text_or lent no_field (get_or p.from 1 0) (get_or p.to 1 0))))) t
      ∙ w ∙ sym v)

  -- ---- a kept record
  texts_wrong_lem : (fs : List (List ℕ)) → texts_wrong c fs ≡ first_wrong (map (λ f. kept_rule) fs) fs
  unfolding texts_wrong first_wrong
  texts_wrong_lem [] = refl
  texts_wrong_lem (f ∷ fs) = ap (λ (n : ℕ). cond (eqb (read_field c kept_rule f).fault.number 0) n (read_field c kept_rule f).fault.number) (texts_wrong_lem fs)

  kept_row : (n : ℕ) (fs : List (List ℕ)) → typed n ≡ false → 1 ≤ length fs → texts_wrong c fs ≡ row_wrong n fs
  unfolding rules counted
  kept_row n fs t l =
      let r : rules n fs ≡ map (λ f. kept_rule) fs = rw t in
      let k : length fs ≡ length (map (λ f. kept_rule) fs) = sym (length-map fs (λ f. kept_rule)) in
      rw (r, le-leb 1 (length fs) l, eq-eqb (length fs) _ k) (texts_wrong_lem fs)

  -- What is wrong with a kept record, whose fields are one part.
  pub kept_wrong : (lent : List ℕ) (at n : ℕ) (p : Laid) (fs : List (List ℕ)) → typed n ≡ false → split (text_or lent no_field (get_or p.from 1 0) (get_or p.to 1 0)) ≡ fs →
      wrong_in last c lent n p ≡ number_in (read_parts last c at (print_number n ∷ fs))
  kept_wrong lent at n p fs t e =
      let s : List ℕ = text_or lent no_field (get_or p.from 1 0) (get_or p.to 1 0) in
      let l : 1 ≤ length fs = rw e at (some_field s) in
      judged lent at n p fs
      (ap (λ (b : Bool). cond b (wrong_typed c lent n p) (texts_wrong c (split s))) t
      ∙ ap (texts_wrong c) e
      ∙ kept_row n fs t l)

  -- ---- refusals
  -- A refusal is told by the record's number after the last one, or by its row.
  pub by_refused : {P : Type 0} (at n from : ℕ) (fs : List (List ℕ)) (f : Refusal) → read_fields last c at n from fs ≡ Err f →
      ((follow last n ≡ 0 → ⊥) → refusal (follow last n) at ≡ f → P) →
      (follow last n ≡ 0 → ((read_row c n from fs).fault.number ≡ 0 → ⊥) → row_refusal at (read_row c n from fs) ≡ f → P) → P
  unfolding read_fields
  by_refused at n from fs f h g k =
      cases (eqb (follow last n) 0)
      (λ a. cases (eqb (read_row c n from fs).fault.number 0)
      (λ b. absurd (let q = simp (a, b) at h in let z : ◌≡◌ {A = ℕ} 0 1 = cc in omega arith))
      (λ b. let q : Err (row_refusal at (read_row c n from fs)) ≡ Err f = simp (a, b) at h in k (eqb-true _ _ a) (eqb-false _ _ b) (cc)))
      (λ a. let q : Err (refusal (follow last n) at) ≡ Err f = simp a at h in g (eqb-false _ _ a) (cc))

  -- The number of a refusal does not go by the place,
  pub anywhere : (at : ℕ) (ps : List (List ℕ)) → number_in (read_parts last c at ps) ≡ number_in (read_parts last c 0 ps)
  anywhere at ps = by_parts at ps ∙ sym (by_parts 0 ps)

  -- and is never 0.
  pub refused_some : (at : ℕ) (ps : List (List ℕ)) (f : Refusal) → read_parts last c at ps ≡ Err f → f.fault.number ≡ 0 → ⊥
  unfolding read_parts
  refused_some at ps f h z =
      let number : Refusal → ℕ = λ r. r.fault.number in
      by_refused at (record_number ps) _ (drop 1 ps) f h (λ k e. k (ap number e ∙ z)) (λ o k e. k (ap number e ∙ z))
