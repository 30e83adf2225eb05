-- A date that a caller makes, or reads from characters, is refused exactly where there is none.
-- Assumes nothing.
use Prim.Native.Nat.{ℕ, ◌≤◌}
use mathlib.Core.Path.{◌≡◌, refl, ◌∙◌, sym, ap, subst}
use mathlib.Core.Bool.{true, ◌&&◌}
use mathlib.Core.List.{List}
use mathlib.Core.Logic.{◌↔◌}
use native.Mathlib.Omega.{arith}
use lib.Dec.{leb, eqb}
use lib.ListN.{length, take}
use Rattle.cells.specs.Test.{Answer, took, refused}
use Rattle.cells.proofs.Split.{split}
use Rattle.order.proofs.Bools.{clash}
use Rattle.number.specs.Number.{figures, value}
use Rattle.number.specs.Number.{none}
use Rattle.date.specs.Date.{exists, in_force, date, is_date, western as in_western, era_date, held, read_date, make_western, make_era, make_date}
use Rattle.date.specs.declared.Date.{Date}
use Rattle.date.proofs.Laws.{back, is_date_lem, written, western_date, era_date_lem}
use Rattle.demands.specs.Numbers.{DateNumber, DateTextNumber}
use Rattle.demands.specs.Numbers as numbers

-- a refusal's number and place
of_none : (P : ℕ → ℕ → Type 0) (n p : ℕ) → none {A = Date} ≡ refused n p → P 27 0 → P n p
of_none P n p h k =
    let a : 27 ≡ n = cc in
    let b : 0 ≡ p = cc in
    subst (λ (x : ℕ). P x p) a (subst (P 27) b k)

never : {P : Type 0} (t : Date) (n p : ℕ) → took t ≡ refused n p → P
never t n p h = absurd (let z : ◌≡◌ {A = ℕ} 0 1 = cc in omega arith)

-- ---- a year, a month and a day
-- in a style in which the days that exist from 1868 to 2099, and no others, are dates
module _ (e y m d : ℕ) (dated : (is_date (date e y m d) ≡ true) ↔ ((1868 ≤ y) × (y ≤ 2099) × (exists y m d ≡ true))) where
  there : (n p : ℕ) → held (date e y m d) ≡ refused n p → DateNumber y m d n p
  there n p h =
      split (is_date (date e y m d)) (λ a. never (date e y m d) n p (simp a at h))
      (λ a. of_none (DateNumber y m d) n p (simp a at h) (numbers.DateNumber.no_date (λ l u x. clash (dated.1 (l, u, x)) a)))

  refuses : (n p : ℕ) → DateNumber y m d n p → held (date e y m d) ≡ refused n p
  refuses n p (numbers.DateNumber.no_date k) =
      split (is_date (date e y m d)) (λ a. absurd (let r = dated.0 a in k r.0 r.1 r.2)) (λ a. simp a)

module _ (y m d n p : ℕ) where
  -- Made in western style,
  pub western : (make_western y m d ≡ refused n p) ↔ DateNumber y m d n p
  unfolding make_western
  western = (there 0 y m d (western_date y m d) n p, refuses 0 y m d (western_date y m d) n p)

  -- in era style,
  pub era : (make_era y m d ≡ refused n p) ↔ DateNumber y m d n p
  unfolding make_era
  era = (there (in_force y m d) y m d (era_date_lem y m d) n p, refuses (in_force y m d) y m d (era_date_lem y m d) n p)

  -- and with no style named.
  pub unnamed : (make_date y m d ≡ refused n p) ↔ DateNumber y m d n p
  unfolding make_date
  unnamed = era

-- ---- characters
module _ (s : List ℕ) where
  -- what is no date is 27 at 0
  held_none : (t : Date) (n p : ℕ) → held t ≡ refused n p → held t ≡ none
  held_none t n p h = split (is_date t) (λ a. never t n p (simp a at h)) (λ a. rw a)

  read_none : (n p : ℕ) → read_date s ≡ refused n p → read_date s ≡ none
  unfolding read_date
  read_none n p h =
      split (figures s)
      (λ a. split (eqb (length s) 8) (λ b. rw (a, b) (held_none (in_western s) n p (simp (a, b) at h)))
      (λ b. split (eqb (length s) 7 && leb 1 (value 0 (take 1 s))) (λ c. rw (a, b, c) (held_none (era_date s) n p (simp (a, b, c) at h))) (λ c. rw (a, b, c))))
      (λ a. rw a)

  by_read : {P : Type 0} (a : Answer Date) → read_date s ≡ a → ((t : Date) → read_date s ≡ took t → P) → (read_date s ≡ none → P) → P
  by_read (took t) e f g = f t e
  by_read (refused n p) e f g = g (read_none n p e)

  from_text : (n p : ℕ) → read_date s ≡ refused n p → DateTextNumber s n p
  from_text n p h =
      of_none (DateTextNumber s) n p (sym (read_none n p h) ∙ h)
      (numbers.DateTextNumber.no_date (λ t i k. never t n p (sym (ap read_date (sym k) ∙ written t i) ∙ h)))

  no_text : (n p : ℕ) → DateTextNumber s n p → read_date s ≡ refused n p
  no_text n p (numbers.DateTextNumber.no_date k) =
      by_read (read_date s) refl (λ t e. absurd (k t (is_date_lem s t e) (back s t e))) (λ e. e)

  -- Read from characters.
  pub read : (n p : ℕ) → (read_date s ≡ refused n p) ↔ DateTextNumber s n p
  read n p = (from_text n p, no_text n p)
