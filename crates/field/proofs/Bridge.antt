-- A field read step by step is read as the rules say: form by form, the tests are the rules' own.
-- Assumes nothing.
use Prim.Native.Nat.{ℕ, ◌<◌, ◌≤◌, ◌%◌}
use mathlib.Core.Path.{◌≡◌, refl, ◌∙◌, sym}
use mathlib.Core.Bool.{Bool, true, false, cond, not, ◌&&◌}
use mathlib.Core.List.{List, [], ◌∷◌, ◌++◌}
use native.Mathlib.Omega.{arith}
use borrow.Author.Tests.{eqb-true, eqb-false, ne_eqb, leb-true, le-leb, lt-leb}
use lib.Dec.{eqb, leb}
use lib.ListN.{length, take}
use Rattle.cells.specs.Test.{fault, first, Answer, took, refused, judge}
use Rattle.cells.specs.declared.Fault.{Fault}
use Rattle.cells.proofs.Split.{split}
use Rattle.cells.proofs.Alike.{and_parts}
use Rattle.text.specs.Text.{text_upto}
use Rattle.number.specs.Number.{figures, value, shortest, read_number}
use Rattle.number.specs.Amount.{amount, hundred_thousandths, before, after, read_amount}
use Rattle.date.specs.Date.{is_date, western, era_date, held, read_date}
use Rattle.date.specs.declared.Date.{Date}
use Rattle.usage.specs.Usage.{frame, timing, says as usage_says, read_usage}
use Rattle.usage.specs.declared.Instruction.{Instruction}
use Rattle.supplement.specs.Supplement.{tests, says as supplement_says, read_supplement}
use Rattle.supplement.specs.declared.Supplement.{Supplement}
use Rattle.field.specs.Field.{Context, present, fits, is_taken, is_drug_code, is_site, written_number, valued, value_said, value_fault, ordered, fault_in, code_fault, joined, listed, filled, wrong, right, refused_with, own_number, read_field}
use Rattle.field.specs.Code.Read.{blank, usage_field, supplement_field, code_field, formed_if, date_field, amount_field, read_by, read_filled}
use Rattle.field.specs.declared.Rule.{Rule}
use Rattle.field.specs.declared.Before.{Before}
use Rattle.field.specs.declared.Field.{Field}
use Rattle.field.proofs.Characters.{empty_is, filled_is}

-- ---- readers: a refusal has a number
abbrev Numbered : {A : Type 0} → Answer A → Type 0
Numbered (took a) = Unit {0}
Numbered (refused n p) = eqb n 0 ≡ false

judged : {A : Type 0} (k : Fault) (a : A) → Numbered (judge k a)
judged k a = split (eqb k.number 0) (λ e. rw e tt) (λ e. rw e e)

usage_numbered : (f : List ℕ) → Numbered (read_usage f)
unfolding read_usage
usage_numbered f = split (eqb (length f) 16) (λ e. rw e (judged (first (frame f ++ timing f)) (usage_says f))) (λ e. rw e refl)

supplement_numbered : (f : List ℕ) → Numbered (read_supplement f)
unfolding read_supplement
supplement_numbered f = split (eqb (length f) 8) (λ e. rw e (judged (first (tests f)) (supplement_says f))) (λ e. rw e refl)

-- that of a number, an amount or a date is not 29, with which a code's own number goes
abbrev Plain : {A : Type 0} → Answer A → Type 0
Plain (took a) = Unit {0}
Plain (refused n p) = (eqb n 0 ≡ false) × (eqb n 29 ≡ false)

number_plain : (lo hi : ℕ) (f : List ℕ) → Plain (read_number lo hi f)
unfolding read_number
number_plain lo hi f = split (shortest f && (leb lo (value 0 f) && leb (value 0 f) hi)) (λ e. rw e tt) (λ e. rw e (refl, refl))

amount_plain : (f : List ℕ) → Plain (read_amount f)
unfolding read_amount
amount_plain f = split (amount f) (λ e. rw e tt) (λ e. rw e (refl, refl))

held_plain : (t : Date) → Plain (held t)
held_plain t = split (is_date t) (λ e. rw e tt) (λ e. rw e (refl, refl))

date_plain : (f : List ℕ) → Plain (read_date f)
unfolding read_date
date_plain f =
    split (figures f)
    (λ a. split (eqb (length f) 8) (λ b. rw (a, b) (held_plain (western f)))
    (λ b. split (eqb (length f) 7 && leb 1 (value 0 (take 1 f))) (λ d. rw (a, b, d) (held_plain (era_date f))) (λ d. rw (a, b, d) (refl, refl))))
    (λ a. rw a (refl, refl))

-- ---- codes
-- the number of a field that passed the tests before those of a code
abbrev code_number : Fault → Bool → Fault
code_number k l = cond (eqb k.number 0) (cond l (fault 0 0) (fault 31 0)) (fault 29 k.place)

-- and what it is read as
abbrev answer : Field → Fault → Bool → Field
answer x k l =
    cond (eqb (code_number k l).number 0) x (refused_with (code_number k l) (cond (eqb (code_number k l).number 29) k.number 0))

usage_answer : (x : Answer Instruction) → Numbered x → usage_field x ≡ answer blank (fault_in x) true
usage_answer (took i) e = refl
usage_answer (refused n p) e = simp e

supplement_answer : (joins : Supplement → Bool) (x : Answer Supplement) → Numbered x →
    supplement_field joins x ≡ answer blank (fault_in x) (joined joins x)
supplement_answer joins (took x) e = split (joins x) (λ h. simp h) (λ h. simp h)
supplement_answer joins (refused n p) e = simp e

-- ---- what is wrong with a value
-- a fault that has a number is told as it is
spoken : (r : Rule) (f : List ℕ) (k : Fault) → value_said r f ≡ k → eqb k.number 0 ≡ false → value_fault r f ≡ k
unfolding value_fault
spoken r f k s e = rw (s, e)

-- and 27 where its reader has nothing to say
silent : (r : Rule) (f : List ℕ) → value_said r f ≡ fault 0 0 → value_fault r f ≡ fault 27 0
unfolding value_fault
silent r f s = rw s

-- so it always has a number, which is no code's
pub numbered : (r : Rule) (f : List ℕ) → eqb (value_fault r f).number 0 ≡ false
unfolding value_fault
numbered r f = split (eqb (value_said r f).number 0) (λ e. rw e refl) (λ e. rw e e)

-- ---- what a value's readers say for now: nothing, or 27 at no place
abbrev Leaf : Fault → Type 0
Leaf k = cond (eqb k.number 0) (fault 27 0) k ≡ fault 27 0

number_leaf : (lo hi : ℕ) (f : List ℕ) → Leaf (fault_in (read_number lo hi f))
unfolding read_number
number_leaf lo hi f = split (shortest f && (leb lo (value 0 f) && leb (value 0 f) hi)) (λ e. rw e refl) (λ e. rw e refl)

amount_leaf : (f : List ℕ) → Leaf (fault_in (read_amount f))
unfolding read_amount
amount_leaf f = split (amount f) (λ e. rw e refl) (λ e. rw e refl)

held_leaf : (t : Date) → Leaf (fault_in (held t))
held_leaf t = split (is_date t) (λ e. rw e refl) (λ e. rw e refl)

date_leaf : (f : List ℕ) → Leaf (fault_in (read_date f))
unfolding read_date
date_leaf f =
    split (figures f)
    (λ a. split (eqb (length f) 8) (λ b. rw (a, b) (held_leaf (western f)))
    (λ b. split (eqb (length f) 7 && leb 1 (value 0 (take 1 f))) (λ d. rw (a, b, d) (held_leaf (era_date f))) (λ d. rw (a, b, d) refl)))
    (λ a. rw a refl)

pub value_fault_lem : (r : Rule) (f : List ℕ) → value_fault r f ≡ fault 27 0
unfolding value_fault value_said
value_fault_lem r f =
    split (eqb r.form 2) (λ a. simp a (date_leaf f))
    (λ a. split (eqb r.form 6) (λ b. simp (a, b) (amount_leaf f))
    (λ b. split (leb 7 r.form) (λ d. simp (a, b, d) (number_leaf r.lo r.hi f)) (λ d. simp (a, b, d))))

-- ---- the tests of a filled field one by one
module _ (c : Context) (r : Rule) (f : List ℕ) where
  at_26 : fits r f ≡ false → read_filled c r f ≡ refused_with (fault 26 0) 0
  unfolding read_filled first
  at_26 a = simp a

  at_27 : (k : Fault) → value_fault r f ≡ k → eqb k.number 29 ≡ false → fits r f ≡ true → valued r f ≡ false →
      read_filled c r f ≡ refused_with k 0
  unfolding read_filled first
  at_27 k v o a b = let e : eqb k.number 0 ≡ false = rw v at (numbered r f) in simp (a, b, v, e, o)

  at_30 : fits r f ≡ true → valued r f ≡ true → ordered c.before r (written_number f) ≡ false → read_filled c r f ≡ refused_with (fault 30 0) 0
  unfolding read_filled first
  at_30 a b o = simp (a, b, o)

  past_30 : fits r f ≡ true → valued r f ≡ true → ordered c.before r (written_number f) ≡ true →
      read_filled c r f ≡ answer (right r f) (code_fault r f) (listed c.joins r f)
  unfolding read_filled first
  past_30 a b o =
      split (eqb (code_fault r f).number 0) (λ k. split (listed c.joins r f) (λ l. simp (a, b, o, k, l)) (λ l. simp (a, b, o, k, l)))
      (λ k. simp (a, b, o, k))

-- ---- by the form
-- only numbers are ordered
unordered : (b : Before) (r : Rule) (n : ℕ) → r.form < 7 → ordered b r n ≡ true
unfolding ordered
unordered b r n l =
    simp (
      ne_eqb r.form 9 (λ z. omega arith),
      ne_eqb r.form 10 (λ z. omega arith),
      ne_eqb r.form 11 (λ z. omega arith),
      ne_eqb r.form 12 (λ z. omega arith),
    )

module _ (c : Context) (r : Rule) (f : List ℕ) where
  -- a text, a drug code, a date or a site has no number and no code
  plain : r.form ≤ 3 → fits r f ≡ true → valued r f ≡ true → read_filled c r f ≡ blank
  unfolding code_fault listed
  plain l a b =
      past_30 c r f a b (unordered c.before r (written_number f) (omega arith)) ∙
      simp (
        ne_eqb r.form 4 (λ z. omega arith),
        ne_eqb r.form 5 (λ z. omega arith),
        ne_eqb r.form 6 (λ z. omega arith),
        lt-leb 7 r.form (omega arith),
      )

  -- a text, a drug code or a site has no reader of its own
  plain_if : r.form ≤ 3 → (r.form ≡ 2 → ⊥) → fits r f ≡ true → (b : Bool) → valued r f ≡ b → read_filled c r f ≡ formed_if b
  unfolding value_said
  plain_if l d a true b = plain l a b
  plain_if l d a false b =
      at_27 c r f (fault 27 0) (silent r f (simp (ne_eqb r.form 2 d, ne_eqb r.form 6 (λ z. omega arith), lt-leb 7 r.form (omega arith))))
      refl a b

  pub unfit : r.form ≤ 1 → text_upto r.hi f ≡ false → read_filled c r f ≡ refused_with (fault 26 0) 0
  unfolding fits
  unfit l a = at_26 c r f (simp (le-leb r.form 1 l, a))

  pub as_text : r.form ≡ 0 → text_upto r.hi f ≡ true → read_filled c r f ≡ blank
  unfolding fits valued
  as_text z a = plain (omega arith) (simp (z, a)) (simp z)

  pub as_drug_code : r.form ≡ 1 → text_upto r.hi f ≡ true → read_filled c r f ≡ formed_if (is_drug_code f)
  unfolding fits valued
  as_drug_code z a = plain_if (omega arith) (λ d. omega arith) (simp (z, a)) (is_drug_code f) (simp z)

  pub as_site : r.form ≡ 3 → read_filled c r f ≡ formed_if (is_site f)
  unfolding fits valued
  as_site z = plain_if (omega arith) (λ d. omega arith) (simp z) (is_site f) (simp z)

  -- a date is what its reader says,
  date_by : r.form ≡ 2 → (x : Answer Date) → read_date f ≡ x → Plain x → read_filled c r f ≡ date_field x
  unfolding fits valued value_said
  date_by z (took t) e p = plain (omega arith) (simp z) (simp (z, e))
  date_by z (refused n k) e p = at_27 c r f (fault n k) (spoken r f (fault n k) (simp (z, e)) p.0) p.1 (simp z) (simp (z, e))

  pub as_date : r.form ≡ 2 → read_filled c r f ≡ date_field (read_date f)
  as_date z = date_by z (read_date f) refl (date_plain f)

  -- and so is an amount
  amount_by : r.form ≡ 6 → (x : Answer ℕ) → read_amount f ≡ x → Plain x → read_filled c r f ≡ amount_field x
  unfolding fits valued value_said code_fault listed read_amount
  amount_by z (took n) e p =
      split (amount f)
      (λ d. let k : hundred_thousandths f ≡ n = let q : took (hundred_thousandths f) ≡ took n = simp d at e in cc in
      past_30 c r f (simp z) (simp (z, d)) (unordered c.before r (written_number f) (omega arith)) ∙ simp (z, k))
      (λ d. absurd (let q = simp d at e in let z : ◌≡◌ {A = ℕ} 0 1 = cc in omega arith))
  amount_by z (refused n k) e p = at_27 c r f (fault n k) (spoken r f (fault n k) (simp (z, e)) p.0) p.1 (simp z) (simp (z, e))

  pub as_amount : r.form ≡ 6 → read_filled c r f ≡ amount_field (read_amount f)
  as_amount z = amount_by z (read_amount f) refl (amount_plain f)

  as_usage : r.form ≡ 4 → read_filled c r f ≡ usage_field (read_usage f)
  unfolding fits valued code_fault listed
  as_usage z =
      past_30 c r f (simp z) (simp z) (unordered c.before r (written_number f) (omega arith)) ∙
      simp z (sym (usage_answer (read_usage f) (usage_numbered f)))

  as_supplement : r.form ≡ 5 → read_filled c r f ≡ supplement_field c.joins (read_supplement f)
  unfolding fits valued code_fault listed
  as_supplement z =
      past_30 c r f (simp z) (simp z) (unordered c.before r (written_number f) (omega arith)) ∙
      simp z (sym (supplement_answer c.joins (read_supplement f) (supplement_numbered f)))

  pub as_code : 3 < r.form → r.form < 6 → read_filled c r f ≡ code_field c.joins r f
  unfolding code_field
  as_code l u =
      split (eqb r.form 4) (λ e. simp e (as_usage (eqb-true _ _ e)))
      (λ e. let k : r.form ≡ 4 → ⊥ = eqb-false _ _ e in simp e (as_supplement (omega arith)))

-- a number in two bytes
in_range : (lo hi m : ℕ) (f : List ℕ) → hi < 65536 → read_number lo hi f ≡ took m → written_number f ≡ m % 65536
unfolding read_number
in_range lo hi m f small h =
    split (shortest f && (leb lo (value 0 f) && leb (value 0 f) hi))
    (λ e. let k : took (value 0 f) ≡ took m = simp e at h in
    let v : value 0 f ≡ m = cc in
    let l : value 0 f ≤ hi = leb-true _ _ (and_parts (leb lo (value 0 f)) _ (and_parts (shortest f) _ e).1).1 in
    omega arith)
    (λ e. absurd (let k = simp e at h in let z : ◌≡◌ {A = ℕ} 0 1 = cc in omega arith))

-- a number, and where it is a code kind not 5
pub but_five : (kind five x : Bool) → cond kind (x && not five) x ≡ x && not (kind && five)
but_five true five x = refl
but_five false five true = refl
but_five false five false = refl

module _ (c : Context) (r : Rule) (f : List ℕ) (l : 7 ≤ r.form) where
  number_fits : fits r f ≡ true
  unfolding fits
  number_fits = simp (lt-leb r.form 1 (omega arith))

  number_valued : (x : Answer ℕ) → read_number r.lo r.hi f ≡ x → valued r f ≡ is_taken x && not (eqb r.form 8 && eqb (written_number f) 5)
  unfolding valued
  number_valued x h =
      simp (
        ne_eqb r.form 0 (λ z. omega arith),
        ne_eqb r.form 1 (λ z. omega arith),
        ne_eqb r.form 2 (λ z. omega arith),
        ne_eqb r.form 3 (λ z. omega arith),
        lt-leb r.form 5 (omega arith),
        ne_eqb r.form 6 (λ z. omega arith),
        h,
      )
      (but_five (eqb r.form 8) (eqb (written_number f) 5) (is_taken x))

  number_said : (x : Answer ℕ) → read_number r.lo r.hi f ≡ x → value_said r f ≡ fault_in x
  unfolding value_said
  number_said x h = simp (ne_eqb r.form 2 (λ z. omega arith), ne_eqb r.form 6 (λ z. omega arith), le-leb 7 r.form l, h)

  pub no_number : (n p : ℕ) → read_number r.lo r.hi f ≡ refused n p → read_filled c r f ≡ refused_with (fault n p) 0
  no_number n p h =
      let q : (eqb n 0 ≡ false) × (eqb n 29 ≡ false) = rw h at (number_plain r.lo r.hi f) in
      at_27 c r f (fault n p) (spoken r f (fault n p) (number_said (refused n p) h) q.0) q.1 number_fits (number_valued (refused n p) h)

  module _ (small : r.hi < 65536) (m : ℕ) (h : read_number r.lo r.hi f ≡ took m) where
    kind : (b : Bool) → eqb r.form 8 && eqb (m % 65536) 5 ≡ b → valued r f ≡ not b
    kind b e = number_valued (took m) h ∙ rw (in_range r.lo r.hi m f small h, e)

    pub five : eqb r.form 8 && eqb (m % 65536) 5 ≡ true → read_filled c r f ≡ refused_with (fault 27 0) 0
    five e = at_27 c r f (fault 27 0) (silent r f (number_said (took m) h)) refl number_fits (kind true e)

    module _ (e : eqb r.form 8 && eqb (m % 65536) 5 ≡ false) where
      pub disordered : ordered c.before r (m % 65536) ≡ false → read_filled c r f ≡ refused_with (fault 30 0) 0
      disordered o = at_30 c r f number_fits (kind false e) (rw (in_range r.lo r.hi m f small h) o)

      pub as_number : ordered c.before r (m % 65536) ≡ true → read_filled c r f ≡ record { fault = fault 0 0; code = 0; n = m % 65536; amount = 0 }
      unfolding code_fault listed
      as_number o =
          past_30 c r f number_fits (kind false e) (rw (in_range r.lo r.hi m f small h) o) ∙
          simp (
            ne_eqb r.form 4 (λ z. omega arith),
            ne_eqb r.form 5 (λ z. omega arith),
            ne_eqb r.form 6 (λ z. omega arith),
            le-leb 7 r.form l,
            in_range r.lo r.hi m f small h,
          )

-- ---- whether the field may be as it is
-- an empty field has no number
none : (r : Rule) (f : List ℕ) → length f ≡ 0 → right r f ≡ blank
unfolding value hundred_thousandths before after
none r [] h = split (leb 7 r.form) (λ e. split (eqb r.form 6) (λ z. simp (e, z)) (λ z. simp (e, z))) (λ e. split (eqb r.form 6) (λ z. simp (e, z)) (λ z. simp (e, z)))
none r (b ∷ f) h = absurd (omega arith)

module _ (c : Context) (r : Rule) (f : List ℕ) where
  by_fault : (k : Fault) → wrong c r f ≡ k → read_field c r f ≡ read_by r f k
  unfolding read_field
  by_fault k e = rw e

  empty_may : length f ≡ 0 → present r f ≡ not (eqb r.need 1)
  unfolding present
  empty_may h = simp (empty_is f h)

  filled_may : (length f ≡ 0 → ⊥) → present r f ≡ not (eqb r.need 2)
  unfolding present
  filled_may h = simp (filled_is f h)

  absent : present r f ≡ false → read_field c r f ≡ refused_with (fault 28 0) 0
  unfolding wrong first
  absent p = by_fault (fault 28 0) (simp (wrong, p))

  -- "28 required field empty, or forbidden one filled"
  pub lacking : length f ≡ 0 → r.need ≡ 1 → read_field c r f ≡ refused_with (fault 28 0) 0
  lacking h n = absent (empty_may h ∙ rw n)

  pub excess : (length f ≡ 0 → ⊥) → r.need ≡ 2 → read_field c r f ≡ refused_with (fault 28 0) 0
  excess h n = absent (filled_may h ∙ rw n)

  -- an empty field that may be empty
  pub nothing : length f ≡ 0 → (r.need ≡ 1 → ⊥) → read_field c r f ≡ blank
  unfolding wrong first
  nothing h n =
      let p : present r f ≡ true = empty_may h ∙ rw (ne_eqb r.need 1 n) in
      by_fault (fault 0 0) (simp (wrong, p, empty_is f h)) ∙ none r f h

  -- a filled field that may be filled
  pub as_filled : (length f ≡ 0 → ⊥) → (r.need ≡ 2 → ⊥) → read_field c r f ≡ read_filled c r f
  unfolding wrong first read_filled
  as_filled h n =
      let p : present r f ≡ true = filled_may h ∙ rw (ne_eqb r.need 2 n) in
      by_fault (first (filled c r f)) (simp (wrong, p, filled_is f h))
