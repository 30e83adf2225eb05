-- The doses that the code works out by what it keeps are those of the rule.
-- Assumes nothing.
use Prim.Native.Nat.{ℕ, zero, suc, ◌+◌, ◌<◌}
use mathlib.Core.Path.{◌≡◌, refl, ◌∙◌}
use mathlib.Core.Bool.{Bool, true, false, cond, not, ◌&&◌, ◌||◌}
use mathlib.Core.List.{List, [], ◌∷◌}
use native.Mathlib.Omega.{arith}
use borrow.Author.Tests.{eqb-true}
use lib.Dec.{eqb}
use lib.ListN.{get_or}
use Rattle.cells.specs.Text.{among}
use Rattle.cells.proofs.Split.{split}
use Rattle.day.specs.Day.{Exists, after}
use Rattle.day.specs.declared.Day.{Day}
use Rattle.day.proofs.Laws.{parts, day_31, after_exists}
use Rattle.supplement.specs.declared.Supplement.{Supplement}
use Rattle.course.specs.Plan.{Found, times_of, days_fixed}
use Rattle.course.specs.Calendar.{in_window, names, on_date, given, dose, doses}
use Rattle.course.specs.Kept.{rule_of, place, rule_in, Marks, Keeps, on_mark, given_by, dose_on, doses_by, counted_by}
use Rattle.course.specs.declared.Course.{Course}

-- The four letters of a supplement that may stand in an RP.
pub by_letter : {P : Type 0} (x : Supplement) → (among "I" x.letter ≡ true → P) → (among "I" x.letter ≡ false → among "W" x.letter ≡ true → P) →
    (among "I" x.letter ≡ false → among "W" x.letter ≡ false → among "C" x.letter ≡ true → P) →
    (among "I" x.letter ≡ false → among "W" x.letter ≡ false → among "C" x.letter ≡ false → P) → P
by_letter x i w c d =
    split (among "I" x.letter) i (λ a. split (among "W" x.letter) (w a) (λ b. split (among "C" x.letter) (c a b) (d a b)))

-- ---- the doses
on_mark_lem : (marks : List Bool) (xs : List Supplement) (issue t : Day) → Marks marks xs → Exists t → on_mark marks issue t ≡ on_date xs issue t
unfolding on_mark on_date
on_mark_lem marks xs issue t w h =
    let m : t.month < 13 = omega (arith, (parts t h).month_12) in
    let d : t.day < 32 = omega (arith, day_31 t h) in
    let e : get_or marks (0 + t.day) false ≡ names xs 0 t.day = w.each 0 t.day (omega arith) d in
    let f : get_or marks (place t.month t.day) false ≡ names xs t.month t.day = w.each t.month t.day m d in
    let no_month : t.day ≡ 0 + t.day = omega arith in
    (λ i. get_or marks (no_month i) false || (in_window issue t && get_or marks (place t.month t.day) false)) ∙ (λ i. e i || (in_window issue t && f i))

by_rule : (marks : List Bool) (x : Supplement) (xs : List Supplement) (issue t : Day) (k : ℕ) → Marks marks (x ∷ xs) → Exists t →
    given_by (rule_of x) marks issue t k ≡ given (x ∷ xs) issue t k
unfolding rule_of given_by given
by_rule marks x xs issue t k w h =
    by_letter x (λ a. rw a) (λ a b. rw (a, b)) (λ a b c. rw (a, b, c)) (λ a b c. rw (a, b, c) (on_mark_lem marks (x ∷ xs) issue t w h))

given_by_lem : (marks : List Bool) (xs : List Supplement) (issue t : Day) (k : ℕ) → Marks marks xs → Exists t →
    given_by (rule_in xs) marks issue t k ≡ given xs issue t k
unfolding given_by given
given_by_lem marks [] issue t k w h = refl
given_by_lem marks (x ∷ xs) issue t k w h = by_rule marks x xs issue t k w h

module _ (c : Course) (marks : List Bool) (w : Found) (k : Keeps c marks w) where
  one_dose : (t : Day) (n : ℕ) → Exists t → dose_on c marks t n ≡ cond (given w.plan.supplements w.issue t n) (times_of w.plan.usage) 0
  one_dose t n h =
      rw (k.rule, k.issue, k.times, given_by_lem marks w.plan.supplements w.issue t n k.marked h)

  -- The code's doses are the rule's.
  pub same_doses : (start : Day) → Exists start → (n m : ℕ) → doses_by c marks start n m ≡ doses w.plan w.issue start n m
  unfolding doses_by doses dose
  same_doses start h n zero = refl
  same_doses start h n (suc m) = rw (one_dose (after n start) n (after_exists n start h), same_doses start h (suc n) m)

-- And a C supplement is the code's counted rule.
no_c : (n k : ℕ) → eqb k 67 ≡ false → cond (eqb n k) true false ≡ true → among "C" n ≡ false
unfolding among
no_c n k h e =
    split (eqb n k) (λ a. let q : n ≡ k = eqb-true n k a in rw (q, h))
    (λ a. absurd (let z : ◌≡◌ {A = ℕ} 0 1 = (let q : false ≡ true = rw a at e in cc) in omega arith))

i_no_c : (n : ℕ) → among "I" n ≡ true → among "C" n ≡ false
unfolding among
i_no_c n e = no_c n 73 refl e

w_no_c : (n : ℕ) → among "W" n ≡ true → among "C" n ≡ false
unfolding among
w_no_c n e = no_c n 87 refl e

counts : (x : Supplement) → not (counted_by (rule_of x)) ≡ not (among "C" x.letter)
unfolding rule_of
counts x =
    by_letter x (λ a. rw (a, i_no_c x.letter a)) (λ a b. rw (a, b, w_no_c x.letter b)) (λ a b c. rw (a, b, c)) (λ a b c. rw (a, b, c))

pub same_fixed : (xs : List Supplement) → not (counted_by (rule_in xs)) ≡ days_fixed xs
unfolding days_fixed
same_fixed [] = refl
same_fixed (x ∷ xs) = counts x
