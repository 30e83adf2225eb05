-- The first refusal of a call, or none, and what it says of the calendar.
-- Assumes nothing.
use Prim.Native.Nat.{ℕ, ◌-◌, ◌≤◌, ◌<◌}
use mathlib.Core.Path.{◌≡◌, refl, ◌∙◌, sym, ap}
use mathlib.Core.Bool.{Bool, true, false, cond, not, ◌&&◌}
use mathlib.Core.List.{List, ◌++◌}
use native.Mathlib.Omega.{arith}
use borrow.Author.Tests.{leb-true, leb-false, le-leb, ne_eqb, eq-eqb}
use lib.Dec.{leb, eqb}
use lib.ListN.{drop}
use Rattle.cells.proofs.Split.{split}
use Rattle.cells.proofs.Alike.{and_left, and_right}
use Rattle.date.specs.Date.{exists}
use Rattle.day.specs.Day.{Exists, day, count, between}
use Rattle.day.specs.declared.Day.{Day}
use Rattle.day.proofs.Laws.{parts, day_31}
use Rattle.course.specs.Calendar.{Calendar, Doses, no_place, no, unless, valid_days, valid_start, Fills, Refuses, answers}
use Rattle.course.specs.Kept.{doses_by, counted_by, calendar_by}
use Rattle.course.specs.Code.First.{first_of, start_of}
use Rattle.course.specs.declared.Course.{Course}
use Rattle.course.proofs.Filling.{length_doses}

-- ---- what a start that is taken says
pub starts : (issue start : Day) → valid_start issue start ≡ true → (start.year ≤ 2099) × Exists start
unfolding valid_start
starts issue start e =
    let a = and_right (leb 1868 start.year) _ e in
    let b = and_right (leb start.year 2099) _ a in
    (leb-true _ _ (and_left (leb start.year 2099) _ a), and_left (exists start.year start.month start.day) (leb (count issue) (count start)) b)

pub not_before : (issue start : Day) → eqb (between start issue) 0 ≡ leb (count issue) (count start)
unfolding between
not_before issue start =
    split (leb (count issue) (count start))
    (λ e. let h : count issue ≤ count start = leb-true _ _ e in eq-eqb (count issue - count start) 0 (omega arith) ∙ sym e)
    (λ e. let h : count start < count issue = leb-false _ _ e in ne_eqb (count issue - count start) 0 (λ z. omega arith) ∙ sym e)

pub most_days : (n : ℕ) → valid_days n ≡ true → n ≤ 366
unfolding valid_days
most_days n e = leb-true n 366 (and_right (leb 1 n) (leb n 366) e)

-- ---- the first refusal
pub first_zero : (b v f : Bool) (n room : ℕ) → first_of b v f n room ≡ 0 → (v ≡ true) × (n ≤ room)
first_zero false v f n room e = absurd (omega arith)
first_zero true false f n room e = absurd (omega arith)
first_zero true true false n room e = absurd (omega arith)
first_zero true true true n room e =
    split (leb n room) (λ t. (refl, leb-true n room t)) (λ t. let z : 33 ≡ 0 = rw t at e in absurd (omega arith))

-- the calendar by the first refusal
in_order : (b v f l : Bool) (ds : List ℕ) →
    cond (eqb (cond b (cond v (cond f (cond l 0 33) 50) 51) 53) 0) (Doses ds) (no (cond b (cond v (cond f (cond l 0 33) 50) 51) 53)) ≡ unless b v f l ds
in_order false v f l ds = refl
in_order true false f l ds = refl
in_order true true false l ds = refl
in_order true true true false ds = refl
in_order true true true true ds = refl

module _ (c : Course) (marks : List Bool) (start : Day) (n room : ℕ) where
  abbrev pub number : ℕ
  number = first_of c.begins (valid_days n && valid_start c.issue start) (c.fixed && not (counted_by c.rule)) n room

  by_number : cond (eqb number 0) (Doses (doses_by c marks start 0 n)) (no number) ≡ calendar_by c marks start n room
  unfolding calendar_by
  by_number =
      in_order c.begins (valid_days n && valid_start c.issue start) (c.fixed && not (counted_by c.rule)) (leb n room) (doses_by c marks start 0 n)

  -- A number is the refusal,
  pub refuses : (r : ℕ) → r ≡ number → (r ≡ 0 → ⊥) → (out : List ℕ) → record { told = Refuses (no_place r); output = out } ≡ answers (calendar_by c marks start n room) out
  refuses r e h out =
      ap (λ (k : Calendar). answers k out) (rw (← e, ne_eqb r 0 h) at by_number)

  -- and where there is none, the doses stand in the output.
  pub fills : number ≡ 0 → (out after : List ℕ) → after ≡ doses_by c marks start 0 n ++ drop n out →
      record { told = Fills; output = after } ≡ answers (calendar_by c marks start n room) out
  fills e out after h =
      (λ i. record { told = Fills; output = (h ∙ ap (λ (k : ℕ). doses_by c marks start 0 n ++ drop k out) (sym (length_doses c marks start 0 n))) i })
      ∙ ap (λ (k : Calendar). answers k out) (rw (eq-eqb number 0 e) at by_number)

-- ---- a start by its numbers
no_start : (v : Bool) → (v ≡ true → ⊥) → v ≡ false
no_start true h = absurd (h refl)
no_start false h = refl

none_taken : (issue : Day) → valid_start issue (day 0 0 0) ≡ false
unfolding valid_start
none_taken issue = refl

too_large : (issue : Day) (y m d : ℕ) → leb y 2099 && (leb m 12 && leb d 31) ≡ false → valid_start issue (day y m d) ≡ false
too_large issue y m d e =
    no_start (valid_start issue (day y m d))
    (λ v.
    let s = starts issue (day y m d) v in
    let z : true ≡ false = sym (rw (le-leb y 2099 s.0, le-leb m 12 (parts (day y m d) s.1).month_12, le-leb d 31 (day_31 (day y m d) s.1))) ∙ e in
    let a : ◌≡◌ {A = ℕ} 1 0 = ap (λ (b : Bool). cond b 1 0) z in
    omega arith)

-- The start that the code makes of its numbers is judged as they are.
pub same_start : (c : Course) (marks : List Bool) (y m d n room : ℕ) → calendar_by c marks (start_of y m d) n room ≡ calendar_by c marks (day y m d) n room
unfolding calendar_by
same_start c marks y m d n room =
    split (leb y 2099 && (leb m 12 && leb d 31)) (λ e. rw e)
    (λ e. rw (e, none_taken c.issue, too_large c.issue y m d e) (split (valid_days n) (λ v. rw v) (λ v. rw v)))
