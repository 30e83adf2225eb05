-- A field that passes its rule is what its value is written as, form by form.
-- Assumes nothing.
use Prim.Native.Nat.{ℕ, ◌≤◌}
use mathlib.Core.Path.{◌≡◌, refl, ◌∙◌, ap}
use mathlib.Core.Bool.{Bool, true, false, cond, ◌&&◌}
use mathlib.Core.List.{List, [], ◌∷◌, ◌++◌}
use native.Mathlib.Omega.{arith}
use borrow.Author.Tests.{eqb-false, ne_eqb, leb-true}
use lib.Dec.{leb, eqb}
use lib.ListN.{length}
use Rattle.cells.specs.Test.{Test, Answer, took, refused, first, judge}
use Rattle.cells.proofs.Split.{split as cases}
use Rattle.cells.proofs.Alike.{and_parts}
use Rattle.number.specs.Number.{figures, value, shortest, read_number}
use Rattle.number.specs.Amount.{amount as is_amount, hundred_thousandths, read_amount}
use Rattle.number.specs.Print.{print_number, print_amount}
use Rattle.number.proofs.Laws as numbers
use Rattle.date.specs.Date.{is_date, read_date}
use Rattle.date.specs.declared.Date.{Date}
use Rattle.date.specs.Print.{print_date}
use Rattle.date.proofs.Laws as dates
use Rattle.usage.specs.Usage.{frame, timing, says as says_usage, read_usage}
use Rattle.usage.specs.declared.Instruction.{Instruction}
use Rattle.supplement.specs.Supplement.{tests, says as says_supplement, read_supplement}
use Rattle.supplement.specs.declared.Supplement.{Supplement}
use Rattle.printed.specs.Printed.{date_field}
use Rattle.printed.proofs.Laws.{date_held, usage_held, supplement_held}
use Rattle.field.specs.Field.{Context, rule, free, required, is_empty, is_taken, written_number, valued, fault_in, code_fault, wrong}
use Rattle.field.specs.declared.Rule.{Rule}
use Rattle.field.proofs.Laws.{passes, empty_only}
use Rattle.record.specs.Record.{date_in, usage_in, supplement_in}
use Rattle.held.specs.Held.{number, amount, day, usage_value, supplement_value, optional, print}

-- ---- what the tests of a field tell
module _ (c : Context) where
  -- A filled field that passes has its form,
  formed : (r : Rule) (b : ℕ) (f : List ℕ) → (wrong c r (b ∷ f)).number ≡ 0 → valued r (b ∷ f) ≡ true
  formed r b f h = (passes c r (b ∷ f) h refl).1

  -- its code is taken,
  pub coded : (r : Rule) (f : List ℕ) → is_empty f ≡ false → (wrong c r f).number ≡ 0 → (code_fault r f).number ≡ 0
  coded r f e h = (passes c r f h e).3

  -- and one that is required is not empty.
  not_empty : {P : Type 0} (form lo hi : ℕ) → (wrong c (rule required form lo hi) []).number ≡ 0 → P
  not_empty form lo hi h =
      absurd (let e : false ≡ true = empty_only c (rule required form lo hi) h in let z : ◌≡◌ {A = ℕ} 0 1 = cc in omega arith)

  -- So a date that is required is one.
  pub day_read : (f : List ℕ) → (wrong c (rule required 2 0 0) f).number ≡ 0 → is_taken (read_date f) ≡ true
  unfolding valued
  day_read [] h = not_empty 2 0 0 h
  day_read (b ∷ f) h = formed _ b f h

-- ---- form by form, of a filled field
-- a number in its range
taken_number : (lo hi : ℕ) (f : List ℕ) → is_taken (read_number lo hi f) ≡ true → read_number lo hi f ≡ took (written_number f)
unfolding read_number
taken_number lo hi f h =
    cases (shortest f && (leb lo (value 0 f) && leb (value 0 f) hi)) (λ e. simp e)
    (λ e. absurd (let k = simp e at h in let z : ◌≡◌ {A = ℕ} 0 1 = cc in omega arith))

at_least : (lo hi : ℕ) (f : List ℕ) → is_taken (read_number lo hi f) ≡ true → lo ≤ written_number f
unfolding read_number
at_least lo hi f h =
    cases (shortest f && (leb lo (value 0 f) && leb (value 0 f) hi))
    (λ e. leb-true lo (value 0 f) (and_parts (leb lo (value 0 f)) _ (and_parts (shortest f) _ e).1).0)
    (λ e. absurd (let k = simp e at h in let z : ◌≡◌ {A = ℕ} 0 1 = cc in omega arith))

number_is : (lo hi : ℕ) (f : List ℕ) → is_taken (read_number lo hi f) ≡ true → print_number (written_number f) ≡ f
number_is lo hi f h = numbers.back lo hi (written_number f) f (taken_number lo hi f h)

-- an amount
amount_is : (f : List ℕ) → is_taken (read_amount f) ≡ true → print_amount (hundred_thousandths f) ≡ f
unfolding read_amount
amount_is f h =
    cases (is_amount f) (λ e. numbers.amount_back (hundred_thousandths f) f (simp e))
    (λ e. absurd (let k = simp e at h in let z : ◌≡◌ {A = ℕ} 0 1 = cc in omega arith))

-- what is no date is written with no byte, and no date reads in that
no_print : (t : Date) → is_date t ≡ false → [] ≡ print_date t
unfolding print_date
no_print t e = rw e

no_read : (t : Date) → read_date [] ≡ took t → ⊥
unfolding read_date figures
no_read t h = let z : ◌≡◌ {A = ℕ} 0 1 = cc in omega arith

-- a date: what is no date is written as no field
date_field_lem : (f : List ℕ) (t : Date) → read_date f ≡ took t → date_field t ≡ f
date_field_lem f t h =
    cases (is_date t) (λ e. date_held t e ∙ dates.back f t h)
    (λ e. absurd (no_read t (ap read_date (no_print t e ∙ dates.back f t h) ∙ h)))

date_is : (f : List ℕ) (m : Answer Date) → read_date f ≡ m → is_taken m ≡ true → date_field (date_in m) ≡ f
date_is f (took t) e h = date_field_lem f t e
date_is f (refused n p) e h = absurd (let z : ◌≡◌ {A = ℕ} 0 1 = cc in omega arith)

-- what refuses has a number
refuses : {A : Type 0} (b : Bool) (ts : List Test) (a : A) (n p : ℕ) → cond b (judge (first ts) a) (refused 1 0) ≡ refused n p → n ≡ 0 → ⊥
refuses true ts a n p h z =
    cases (eqb (first ts).number 0) (λ e. let k = simp e at h in let q : ◌≡◌ {A = ℕ} 0 1 = cc in omega arith)
    (λ e. let k = simp e at h in let q : (first ts).number ≡ n = cc in eqb-false (first ts).number 0 e (q ∙ z))
refuses false ts a n p h z = let q : 1 ≡ n = cc in omega arith

-- a code
pub refused_usage : (f : List ℕ) (n p : ℕ) → read_usage f ≡ refused n p → n ≡ 0 → ⊥
unfolding read_usage
refused_usage f n p e h = refuses (eqb (length f) 16) (frame f ++ timing f) (says_usage f) n p e h

usage_is : (f : List ℕ) (m : Answer Instruction) → read_usage f ≡ m → (fault_in m).number ≡ 0 → print (usage_value (usage_in m)) ≡ f
usage_is f (took i) e h = usage_held f i e
usage_is f (refused n p) e h = absurd (refused_usage f n p e h)

pub refused_supplement : (f : List ℕ) (n p : ℕ) → read_supplement f ≡ refused n p → n ≡ 0 → ⊥
unfolding read_supplement
refused_supplement f n p e h = refuses (eqb (length f) 8) (tests f) (says_supplement f) n p e h

supplement_is : (f : List ℕ) (m : Answer Supplement) → read_supplement f ≡ m → (fault_in m).number ≡ 0 → print (supplement_value (supplement_in m)) ≡ f
supplement_is f (took x) e h = supplement_held f x e
supplement_is f (refused n p) e h = absurd (refused_supplement f n p e h)

-- ---- form by form, of a field that passes
module _ (c : Context) where
  -- A number that is required, in any of its forms;
  pub number_back : (form lo hi : ℕ) → ((f : List ℕ) → valued (rule required form lo hi) f ≡ true → is_taken (read_number lo hi f) ≡ true) →
      (f : List ℕ) → (wrong c (rule required form lo hi) f).number ≡ 0 → print (number (written_number f)) ≡ f
  number_back form lo hi is [] h = not_empty c form lo hi h
  number_back form lo hi is (b ∷ f) h = number_is lo hi (b ∷ f) (is (b ∷ f) (formed c _ b f h))

  -- one that may be empty, and is 1 or more where it is not;
  pub optional_back : (hi : ℕ) (f : List ℕ) → (wrong c (rule free 7 1 hi) f).number ≡ 0 → print (optional (written_number f)) ≡ f
  unfolding valued value
  optional_back hi [] h = refl
  optional_back hi (b ∷ f) h =
      let v : is_taken (read_number 1 hi (b ∷ f)) ≡ true = formed c _ b f h in
      let l : 1 ≤ written_number (b ∷ f) = at_least 1 hi (b ∷ f) v in
      rw (ne_eqb (written_number (b ∷ f)) 0 (omega arith)) (number_is 1 hi (b ∷ f) v)

  -- an amount and a date;
  pub amount_back : (f : List ℕ) → (wrong c (rule required 6 0 0) f).number ≡ 0 → print (amount (hundred_thousandths f)) ≡ f
  unfolding valued
  amount_back [] h = not_empty c 6 0 0 h
  amount_back (b ∷ f) h = amount_is (b ∷ f) (formed c _ b f h)

  pub date_back : (f : List ℕ) → (wrong c (rule required 2 0 0) f).number ≡ 0 → print (day (date_in (read_date f))) ≡ f
  date_back f h = date_is f (read_date f) refl (day_read c f h)

  -- a usage code and a supplement, whether they are needed or not.
  pub usage_back : (need : ℕ) (f : List ℕ) → (wrong c (rule need 4 0 0) f).number ≡ 0 → print (usage_value (usage_in (read_usage f))) ≡ f
  unfolding code_fault read_usage
  usage_back need [] h = refl
  usage_back need (b ∷ f) h = usage_is (b ∷ f) (read_usage (b ∷ f)) refl (coded c _ (b ∷ f) refl h)

  pub supplement_back : (need : ℕ) (f : List ℕ) → (wrong c (rule need 5 0 0) f).number ≡ 0 →
      print (supplement_value (supplement_in (read_supplement f))) ≡ f
  unfolding code_fault read_supplement
  supplement_back need [] h = refl
  supplement_back need (b ∷ f) h = supplement_is (b ∷ f) (read_supplement (b ∷ f)) refl (coded c _ (b ∷ f) refl h)
