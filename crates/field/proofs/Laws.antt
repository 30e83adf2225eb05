-- What holds of every field, over the rules alone; and fields worked by hand.
-- Assumes nothing.
use Prim.Native.Nat.{ℕ}
use Prim.Native.String.{String}
use mathlib.Core.Path.{◌≡◌, refl, ap}
use mathlib.Core.Bool.{Bool, true, false, cond, not}
use mathlib.Core.List.{List, [], ◌∷◌, map}
use native.Mathlib.Omega.{arith}
use borrow.Author.Tests.{eqb-true, eqb-false}
use lib.Dec.{eqb}
use Rattle.cells.specs.Text.{among, index, digit, bytes}
use Rattle.cells.specs.Test.{test, fault, first, Answer, took, refused}
use Rattle.cells.specs.Cells.{cells}
use Rattle.cells.specs.declared.Fault.{Fault}
use Rattle.cells.proofs.Split.{split}
use Rattle.cells.proofs.Back.{passed}
use Rattle.text.specs.Text.{single, lead, second, characters, all_whole, starts, ends, text_upto}
use Rattle.text.specs.Text as Text
use Rattle.number.specs.Number.{figure, figures, value, shortest, read_number}
use Rattle.number.specs.Amount.{before, after, pointed, fraction, hundred_thousandths, read_amount}
use Rattle.number.specs.Amount as Amount
use Rattle.date.specs.Date.{leap, last_day, exists, era_adds, in_force, in_style, in_its_era, is_date, read_date}
use Rattle.usage.specs.Usage.{hour, used, in_table, in_pairs, timing, says, read_usage}
use Rattle.supplement.specs.Amount.{may, next, columns, figures_of, decimals_of, places_of}
use Rattle.supplement.specs.Supplement.{empty_week, more_days, read_supplement}
use Rattle.supplement.specs.Supplement as Supplementary
use Rattle.supplement.specs.declared.Supplement.{Supplement}
use Rattle.schedule.specs.Kept.{may_join}
use Rattle.counter.specs.Counter.{rises, carries, next_drug, next_supplement}
use Rattle.field.specs.Field.{Context, judged_by, context, free, required, forbidden, text, drug_code, date, site, usage_code, supplement_code, amount, number, code_kind, new_rp, own_rp, drug_serial, supplement_serial, is_empty, present, fits, each, written_number, valued, value_said, value_fault, ordered, code_fault, joined, listed, filled, wrong, right, refused_with, own_number, read_field}
use Rattle.field.specs.declared.Rule.{Rule}
use Rattle.field.specs.declared.Before.{Before}
use Rattle.field.specs.declared.Field.{Field}
use Rattle.field.proofs.Bridge.{numbered}

module _ (c : Context) (r : Rule) where
  -- A field that is read with no refusal is right: its number, its amount, and nothing else.
  pub right_when : (f : List ℕ) → (read_field c r f).fault.number ≡ 0 → read_field c r f ≡ right r f
  unfolding read_field
  right_when f h = split (eqb (wrong c r f).number 0) (λ e. simp e) (λ e. absurd (eqb-false _ _ e (simp e at h)))

  -- the first test is passed, and so are those after it
  present_first : (f : List ℕ) → (wrong c r f).number ≡ 0 → (present r f ≡ true) × ((first (cond (is_empty f) [] (filled c r f))).number ≡ 0)
  unfolding wrong
  present_first f h = passed (present r f) 28 0 (cond (is_empty f) [] (filled c r f)) (λ z. omega arith) h

  -- A filled field with no fault has passed each test.
  pub passes : (f : List ℕ) → (wrong c r f).number ≡ 0 → is_empty f ≡ false →
      (fits r f ≡ true) × (valued r f ≡ true) × (ordered c.before r (written_number f) ≡ true) × ((code_fault r f).number ≡ 0) × (listed c.joins r f ≡ true)
  passes f h e =
      let all : (first (filled c r f)).number ≡ 0 = rw e at (present_first f h).1 in
      let a = passed (fits r f) 26 0 _ (λ z. omega arith) all in
      let b = passed (valued r f) (value_fault r f).number (value_fault r f).place _ (eqb-false _ _ (numbered r f)) a.1 in
      let o = passed (ordered c.before r (written_number f)) 30 0 _ (λ z. omega arith) b.1 in
      let k = passed (eqb (code_fault r f).number 0) 29 (code_fault r f).place _ (λ z. omega arith) o.1 in
      let l = passed (listed c.joins r f) 31 0 [] (λ z. omega arith) k.1 in
      (a.0, b.0, o.0, eqb-true _ _ k.0, l.0)

  -- An empty field with no fault is not required.
  pub empty_only : (wrong c r []).number ≡ 0 → not (eqb r.need required) ≡ true
  unfolding present
  empty_only h = (present_first [] h).0

  -- A filled field with no fault is not forbidden.
  pub forbidden_only : (f : List ℕ) → (wrong c r f).number ≡ 0 → is_empty f ≡ false → not (eqb r.need forbidden) ≡ true
  unfolding present
  forbidden_only f h e = rw e at (present_first f h).0

-- two descriptions of which supplements may stand that agree
module _ (joins joins' : Supplement → Bool) (same : (x : Supplement) → joins x ≡ joins' x) where
  joined_same : (x : Answer Supplement) → joined joins x ≡ joined joins' x
  joined_same (took x) = same x
  joined_same (refused n p) = refl

  listed_same : (r : Rule) (f : List ℕ) → listed joins r f ≡ listed joins' r f
  unfolding listed
  listed_same r f = ap (λ (b : Bool). cond (eqb r.form 5) b true) (joined_same (read_supplement f))

  module _ (b : Before) (r : Rule) (f : List ℕ) where
    -- A field's fault depends on which supplements may stand, however that is described,
    pub same_wrong : wrong (judged_by b joins) r f ≡ wrong (judged_by b joins') r f
    unfolding wrong
    same_wrong =
        ap (λ (l : Bool).
        first (test 28 0 (present r f) ∷
        cond (is_empty f) []
        (test 26 0 (fits r f) ∷
        test (value_fault r f).number (value_fault r f).place (valued r f) ∷
        test 30 0 (ordered b r (written_number f)) ∷
        test 29 (code_fault r f).place (eqb (code_fault r f).number 0) ∷
        test 31 0 l ∷ [])))
        (listed_same r f)

    -- and so does what it is read as.
    pub same_joins : read_field (judged_by b joins) r f ≡ read_field (judged_by b joins') r f
    unfolding read_field
    same_joins = ap (λ (k : Fault). cond (eqb k.number 0) (right r f) (refused_with k (own_number k.number r f))) same_wrong

-- A rule, a field as text, and what it is read as in RP 2 after its third drug and before its first supplement.
pub record Row : Type 0 where
  pub by : Rule
  pub field : String
  pub reads : Field

abbrev row : Rule → String → Field → Row
row r s t = record { by = r; field = s; reads = t }

-- a refusal; a number; an amount
abbrev no_field : ℕ → Field
no_field n = refused_with (fault n 0) 0

abbrev counted : ℕ → Field
counted n = record { fault = fault 0 0; code = 0; n = n; amount = 0 }

abbrev held : ℕ → Field
held n = record { fault = fault 0 0; code = 0; n = 0; amount = n }

abbrev before_it : Before
before_it =
    record {
      month = 7;
      rp = record { 0 = 2 };
      drug = record { 0 = 3 };
      supplement = record { 0 = 0 };
      schedule = record { letter = 0; month = 0; last = 0; full = false };
    }

-- "Field by field 28, 26, 27, 30, 29, 31."
abbrev pub worked : List Row
worked =
    row (text required 4) "" (no_field 28) ∷
    row (text forbidden 4) "A" (no_field 28) ∷
    row (text free 4) "" (counted 0) ∷
    row (text free 4) "ABCD" (counted 0) ∷
    row (text free 4) "ABCDE" (no_field 26) ∷
    row (text free 4) "A " (no_field 26) ∷
    row (drug_code required 4) "a.-Z" (counted 0) ∷
    row (drug_code required 4) "a_b" (no_field 27) ∷
    row (drug_code required 4) "a_bcd" (no_field 26) ∷
    row (date required) "20180702" (counted 0) ∷
    row (date required) "20180732" (no_field 27) ∷
    row (date required) "5010501" (counted 0) ∷
    row (date required) "4310501" (no_field 27) ∷
    row (site free) "0AZ" (counted 0) ∷
    row (site free) "0Aa" (no_field 27) ∷
    row (site free) "0A" (no_field 27) ∷
    row (amount required) "0.5" (held 50000) ∷
    row (amount required) "0.50" (no_field 27) ∷
    row (number free 1 999) "10" (counted 10) ∷
    row (number free 1 999) "010" (no_field 27) ∷
    row (code_kind required) "6" (counted 6) ∷
    row (code_kind required) "5" (no_field 27) ∷
    row (new_rp required) "10" (counted 10) ∷
    row (new_rp required) "2" (no_field 30) ∷
    row (new_rp required) "02" (no_field 27) ∷
    row (own_rp required) "2" (counted 2) ∷
    row (own_rp required) "10" (no_field 30) ∷
    row (drug_serial required) "4" (counted 4) ∷
    row (drug_serial required) "3" (no_field 30) ∷
    row (supplement_serial required) "1" (counted 1) ∷
    row (supplement_serial required) "4" (no_field 30) ∷
    row (usage_code required) "1013044400000000" (counted 0) ∷
    row (usage_code required) "1012044400000000" (refused_with (fault 29 4) 7) ∷
    row (supplement_code required) "W0100100" (counted 0) ∷
    row (supplement_code required) "D2TU0000" (refused_with (fault 29 4) 8) ∷
    row (supplement_code required) "V31.0NNN" (no_field 31) ∷
    []

-- They are read so.
pub worked_right : map (λ r. read_field (context before_it) r.by (bytes r.field)) worked ≡ map (λ r. r.reads) worked
unfolding read_field wrong first present fits valued value_said value_fault ordered code_fault listed each among index digit bytes
    text_upto Text.text characters all_whole starts ends single lead second
    read_number shortest figures figure value read_amount Amount.amount before after pointed fraction hundred_thousandths
    read_date is_date in_style in_its_era in_force exists last_day leap era_adds rises carries next_drug next_supplement
    cells hour used in_table in_pairs timing says read_usage
    may next columns figures_of decimals_of places_of empty_week more_days Supplementary.last_day Supplementary.says read_supplement may_join
worked_right = refl
