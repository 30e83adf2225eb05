-- The next day, by its four cases: in the same month, the first of the next, the first of the next year, none.
-- Assumes nothing.
use Prim.Native.Nat.{ℕ, ◌+◌, ◌≤◌, ◌<◌}
use mathlib.Core.Path.{◌≡◌, sym}
use borrow.Author.Tests.{ltb-true, ltb-false, lt-ltb, le-ltb}
use lib.Dec.{ltb}
use Rattle.cells.proofs.Split.{split}
use Rattle.date.specs.Date.{last_day}
use Rattle.day.specs.Day.{last_year, day, next}
use Rattle.day.specs.declared.Day.{Day}

next_in : (t : Day) → t.day < last_day t.year t.month → next t ≡ day t.year t.month (t.day + 1)
unfolding next
next_in t h = rw (lt-ltb _ _ h)

next_month : (t : Day) → last_day t.year t.month ≤ t.day → t.month < 12 → next t ≡ day t.year (t.month + 1) 1
unfolding next
next_month t h g = rw (le-ltb _ _ h, lt-ltb _ _ g)

next_year : (t : Day) → last_day t.year t.month ≤ t.day → 12 ≤ t.month → t.year < last_year → next t ≡ day (t.year + 1) 1 1
unfolding next
next_year t h g l = rw (le-ltb _ _ h, le-ltb _ _ g, lt-ltb _ _ l)

next_none : (t : Day) → last_day t.year t.month ≤ t.day → 12 ≤ t.month → last_year ≤ t.year → next t ≡ t
unfolding next
next_none t h g l = rw (le-ltb _ _ h, le-ltb _ _ g, le-ltb _ _ l)

-- The same as the code has it, with the last day of the month in hand.
module _ (t : Day) (l : ℕ) (e : l ≡ last_day t.year t.month) where
  pub told_in : t.day < l → day t.year t.month (t.day + 1) ≡ next t
  told_in h = sym (next_in t (rw e at h))

  pub told_month : l ≤ t.day → t.month < 12 → day t.year (t.month + 1) 1 ≡ next t
  told_month h g = sym (next_month t (rw e at h) g)

  pub told_year : l ≤ t.day → 12 ≤ t.month → t.year < last_year → day (t.year + 1) 1 1 ≡ next t
  told_year h g k = sym (next_year t (rw e at h) g k)

  pub told_none : l ≤ t.day → 12 ≤ t.month → last_year ≤ t.year → t ≡ next t
  told_none h g k = sym (next_none t (rw e at h) g k)

-- What holds of the next day in each of the four cases holds of it.
pub by_cases : (P : Day → Type 0) (t : Day) → (t.day < last_day t.year t.month → P (day t.year t.month (t.day + 1))) →
    (last_day t.year t.month ≤ t.day → t.month < 12 → P (day t.year (t.month + 1) 1)) →
    (last_day t.year t.month ≤ t.day → 12 ≤ t.month → t.year < last_year → P (day (t.year + 1) 1 1)) →
    (last_day t.year t.month ≤ t.day → 12 ≤ t.month → last_year ≤ t.year → P t) → P (next t)
by_cases P t f g h i =
    split (ltb t.day (last_day t.year t.month))
    (λ e. let a = ltb-true _ _ e in rw (next_in t a) (f a))
    (λ e. let a = ltb-false _ _ e in
    split (ltb t.month 12) (λ m. let b = ltb-true _ _ m in rw (next_month t a b) (g a b))
    (λ m. let b = ltb-false _ _ m in
    split (ltb t.year last_year) (λ y. let c = ltb-true _ _ y in rw (next_year t a b c) (h a b c))
    (λ y. let c = ltb-false _ _ y in rw (next_none t a b c) (i a b c))))
