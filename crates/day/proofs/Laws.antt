-- What holds of days, over the rules alone: stepping and counting agree, weekdays follow one another, the earlier day has the lower number.
-- Each contract gives its answer by an equation, so that two answers that meet it are equal.
-- Assumes nothing.
use Prim.Native.Nat.{ℕ, zero, suc, ◌+◌, ◌-◌, ◌%◌, ◌≤◌, ◌<◌}
use mathlib.Core.Path.{◌≡◌, refl, ◌∙◌, ap, sym}
use mathlib.Core.Bool.{cond}
use native.Mathlib.Omega.{arith}
use native.Mathlib.Numerals.{add-one}
use native.Mathlib.Nat.{le_of_lt}
use borrow.Author.Tests.{ltb-true, ltb-false, leb-true, eqb-true, eqb-false, lt-ltb, le-ltb, le-leb}
use lib.Dec.{eqb, ltb, leb}
use Rattle.cells.proofs.Split.{split}
use Rattle.cells.proofs.Alike.{and_left, and_right}
use Rattle.date.specs.Date.{leap, last_day, exists}
use Rattle.day.specs.Day.{Exists, last_year, day, next, after, years, months, count, between, weekday}
use Rattle.day.specs.declared.Day.{Day}
use Rattle.day.proofs.Cases.{by_cases}
use Rattle.day.proofs.Months.{month_more, month_long, year_whole, months_rise}
use Rattle.day.proofs.Years.{years_rise}

-- ---- what it is for a day to exist
pub record Parts (t : Day) : Type 0 where
  pub month_1 : 1 ≤ t.month
  pub month_12 : t.month ≤ 12
  pub day_1 : 1 ≤ t.day
  pub day_last : t.day ≤ last_day t.year t.month

-- A day that exists has a month of the twelve, and a day of that month;
pub parts : (t : Day) → Exists t → Parts t
unfolding exists
parts t h =
    let u = and_right (leb 1 t.month) _ h in
    let v = and_right (leb t.month 12) _ u in
    record {
      month_1 = leb-true _ _ (and_left (leb 1 t.month) _ h);
      month_12 = leb-true _ _ (and_left (leb t.month 12) _ u);
      day_1 = leb-true _ _ (and_left (leb 1 t.day) _ v);
      day_last = leb-true _ _ (and_right (leb 1 t.day) _ v);
    }

-- and one that has them exists.
pub real : (t : Day) → Parts t → Exists t
unfolding exists
real t p = rw (le-leb _ _ p.month_1, le-leb _ _ p.month_12, le-leb _ _ p.day_1, le-leb _ _ p.day_last)

-- No month has more than 31 days.
pub day_31 : (t : Day) → Exists t → t.day ≤ 31
day_31 t h = let p : Parts t = parts t h in omega (arith, (month_long t.year t.month p.month_1 p.month_12).1)

-- ---- days one after the other
-- The day after one that exists exists,
pub next_exists : (t : Day) → Exists t → Exists (next t)
next_exists t h =
    let p : Parts t = parts t h in
    by_cases Exists t
    (λ a. real _ (record { month_1 = p.month_1; month_12 = p.month_12; day_1 = omega arith; day_last = omega arith }))
    (λ a b. let l = month_long t.year (t.month + 1) (omega arith) (omega arith) in
    real _ (record { month_1 = omega arith; month_12 = omega arith; day_1 = omega arith; day_last = omega (arith, l.0) }))
    (λ a b c. let l = month_long (t.year + 1) 1 (omega arith) (omega arith) in
    real _ (record { month_1 = omega arith; month_12 = omega arith; day_1 = omega arith; day_last = omega (arith, l.0) }))
    (λ a b c. h)

-- and so do all those after it.
pub after_exists : (k : ℕ) (t : Day) → Exists t → Exists (after k t)
unfolding after
after_exists zero t h = h
after_exists (suc k) t h = next_exists (after k t) (after_exists k t h)

-- A day more is at most a year more,
pub next_year_at_most : (t : Day) → (next t).year ≤ t.year + 1
next_year_at_most t =
    by_cases (λ u. u.year ≤ t.year + 1) t (λ a. omega arith) (λ a b. omega arith) (λ a b c. omega arith) (λ a b c. omega arith)

-- so k days more are at most k years more.
pub after_year : (k : ℕ) (t : Day) → (after k t).year ≤ t.year + k
unfolding after
after_year zero t = omega arith
after_year (suc k) t = omega (arith, next_year_at_most (after k t), after_year k t)

-- ---- counting
year_more : (y : ℕ) → years (y + 1) ≡ years y + cond (leap y) 366 365
unfolding years
year_more y = rw (add-one y)

no_month : (y : ℕ) → months y 1 ≡ 0
unfolding months last_day
no_month y = refl

december : (y : ℕ) → months y 12 + last_day y 12 ≡ cond (leap y) 366 365
december y = sym (month_more y 12) ∙ year_whole y

-- The number of the day after is one more, but for the day that stays.
next_moves : (t : Day) → Exists t → (last_day t.year t.month ≤ t.day → 12 ≤ t.month → last_year ≤ t.year → ⊥) → count (next t) ≡ count t + 1
unfolding count
next_moves t h s =
    let p : Parts t = parts t h in
    by_cases (λ u. years u.year + months u.year u.month + u.day ≡ years t.year + months t.year t.month + t.day + 1) t
    (λ a. omega arith)
    (λ a b. omega (arith, month_more t.year t.month))
    (λ a b c.
    let m : t.month ≡ 12 = omega arith in
    let e : months t.year t.month + last_day t.year t.month ≡ cond (leap t.year) 366 365 = rw m (december t.year) in
    omega (arith, year_more t.year, no_month (t.year + 1)))
    (λ a b c. absurd (s a b c))

-- The number of the day after is one more,
pub next_count : (t : Day) → Exists t → t.year < last_year → count (next t) ≡ count t + 1
next_count t h l = next_moves t h (λ a b c. omega arith)

-- and the number of the day k days after is k more.
pub after_count : (k : ℕ) (t : Day) → Exists t → t.year + k ≤ last_year → count (after k t) ≡ count t + k
unfolding after
after_count zero t h l = omega arith
after_count (suc k) t h l =
    next_count (after k t) (after_exists k t h) (omega (arith, after_year k t)) ∙ omega (arith, after_count k t h (omega arith))

-- ---- weekdays
-- A weekday is one of seven.
pub weekday_7 : (t : Day) → weekday t < 7
unfolding weekday
weekday_7 t = omega arith

-- The day after has the next weekday, after Saturday Sunday,
pub next_weekday : (t : Day) → Exists t → t.year < last_year → weekday (next t) ≡ (weekday t + 1) % 7
unfolding weekday
next_weekday t h l = rw (next_count t h l) (omega arith)

-- and the day k days after the k-th next.
pub after_weekday : (k : ℕ) (t : Day) → Exists t → t.year + k ≤ last_year → weekday (after k t) ≡ (weekday t + k) % 7
unfolding weekday
after_weekday k t h l = rw (after_count k t h l) (omega arith)

-- A week has seven days.
pub after_week : (t : Day) → Exists t → t.year + 7 ≤ last_year → weekday (after 7 t) ≡ weekday t
after_week t h l = after_weekday 7 t h l ∙ omega (arith, weekday_7 t)

-- 2018-07-02, the day of document 01's worked file, is a Monday;
pub a_monday : weekday (day 2018 7 2) ≡ 1
unfolding weekday count years months last_day leap
a_monday = refl

-- the first day that a date can be, 1868-01-01, is a Wednesday;
pub a_wednesday : weekday (day 1868 1 1) ≡ 3
unfolding weekday count years months last_day leap
a_wednesday = refl

-- and 2100 has no 29 February.
pub no_29th : next (day 2100 2 28) ≡ day 2100 3 1
unfolding next last_day leap
no_29th = refl

-- ---- the order of days
earlier_month : (y m n d e : ℕ) → d ≤ last_day y m → 1 ≤ e → m < n → months y m + d < months y n + e
earlier_month y m n d e h g l = omega (arith, month_more y m, months_rise y (m + 1) n (omega arith))

within : (t : Day) → Exists t → months t.year t.month + t.day ≤ cond (leap t.year) 366 365
within t h =
    let p : Parts t = parts t h in
    omega (arith, month_more t.year t.month, months_rise t.year (t.month + 1) 13 (omega arith), year_whole t.year)

-- A day of an earlier year has a lower number,
earlier_year : (a b : Day) → Exists a → Exists b → a.year < b.year → count a < count b
unfolding count
earlier_year a b h g l = omega (arith, parts b g, within a h, year_more a.year, years_rise (a.year + 1) b.year (omega arith))

same_test : (x y u v : ℕ) → (x < y → u < v) → (y ≤ x → v ≤ u) → ltb u v ≡ ltb x y
same_test x y u v f g = split (ltb x y) (λ e. lt-ltb u v (f (ltb-true x y e)) ∙ sym e) (λ e. le-ltb u v (g (ltb-false x y e)) ∙ sym e)

-- and in one year one of an earlier month,
one_year : (y m n d e : ℕ) → d ≤ last_day y m → e ≤ last_day y n → 1 ≤ d → 1 ≤ e →
    ltb (years y + months y m + d) (years y + months y n + e) ≡ cond (eqb m n) (ltb d e) (ltb m n)
one_year y m n d e h g p q =
    split (eqb m n)
    (λ i. let k : m ≡ n = eqb-true m n i in
    rw (i, k) (same_test d e (years y + months y n + d) (years y + months y n + e) (λ l. omega arith) (λ l. omega arith)))
    (λ i. rw i
    (same_test m n (years y + months y m + d) (years y + months y n + e) (λ l. omega (arith, earlier_month y m n d e h q l))
    (λ l. omega (arith, earlier_month y n m e d g p (omega (arith, eqb-false m n i))))))

same_year : (a b : Day) → a.year ≡ b.year → Parts a → Parts b →
    ltb (count a) (count b) ≡ cond (eqb a.month b.month) (ltb a.day b.day) (ltb a.month b.month)
unfolding count
same_year a b q u v =
    let l : b.day ≤ last_day a.year b.month = rw q v.day_last in
    ap (λ (y : ℕ). ltb (years a.year + months a.year a.month + a.day) (years y + months y b.month + b.day)) (sym q) ∙
    one_year a.year a.month b.month a.day b.day u.day_last l u.day_1 v.day_1

-- so that the earlier of two days, by its year, else its month, else its day, has the lower number.
pub earlier : (a b : Day) → Exists a → Exists b →
    ltb (count a) (count b) ≡
    cond (eqb a.year b.year) (cond (eqb a.month b.month) (ltb a.day b.day) (ltb a.month b.month)) (ltb a.year b.year)
earlier a b h g =
    split (eqb a.year b.year)
    (λ e. let q : a.year ≡ b.year = eqb-true _ _ e in rw e (same_year a b q (parts a h) (parts b g)))
    (λ e. rw e
    (same_test a.year b.year (count a) (count b) (earlier_year a b h g)
    (λ l. le_of_lt (earlier_year b a g h (omega (arith, eqb-false a.year b.year e))))))

one_place : (y m n d e : ℕ) → d ≤ last_day y m → e ≤ last_day y n → 1 ≤ d → 1 ≤ e → months y m + d ≡ months y n + e → (m ≡ n) × (d ≡ e)
one_place y m n d e h g p q w =
    let f : m < n → ⊥ = λ l. omega (arith, earlier_month y m n d e h q l) in
    let k : n < m → ⊥ = λ l. omega (arith, earlier_month y n m e d g p l) in
    let r : m ≡ n = omega arith in
    (r, omega (arith, ap (months y) r))

-- Two days with one number are one day.
pub one_day : (a b : Day) → Exists a → Exists b → count a ≡ count b → a ≡ b
unfolding count
one_day a b h g e =
    let u : Parts a = parts a h in
    let v : Parts b = parts b g in
    let f : a.year < b.year → ⊥ = λ l. omega (arith, earlier_year a b h g l) in
    let k : b.year < a.year → ⊥ = λ l. omega (arith, earlier_year b a g h l) in
    let y : a.year ≡ b.year = omega arith in
    let w : months a.year a.month + a.day ≡ months a.year b.month + b.day =
    omega (arith, ap years y, ap (λ (z : ℕ). months z b.month) y) in
    let l : b.day ≤ last_day a.year b.month = rw y v.day_last in
    let p = one_place a.year a.month b.month a.day b.day u.day_last l u.day_1 v.day_1 w in
    λ i. record { year = y i; month = p.0 i; day = p.1 i }

-- ---- stepping and counting agree
-- From a day to the day k days after it there are k days.
pub steps : (k : ℕ) (t : Day) → Exists t → t.year + k ≤ last_year → between t (after k t) ≡ k
unfolding between
steps k t h l = omega (arith, after_count k t h l)

-- No day of a year has a higher number than its last day.
year_end : (t : Day) → Exists t → count t ≤ years (t.year + 1)
unfolding count
year_end t h = omega (arith, within t h, year_more t.year)

at_year_end : (t : Day) → Exists t → last_day t.year t.month ≤ t.day → 12 ≤ t.month → years (t.year + 1) ≤ count t
unfolding count
at_year_end t h a b =
    let p : Parts t = parts t h in
    let m : t.month ≡ 12 = omega arith in
    let e : months t.year t.month + last_day t.year t.month ≡ cond (leap t.year) 366 365 = rw m (december t.year) in
    omega (arith, year_more t.year)

-- A day with a lower number than some day of the years that are held does not stay.
moves_before : (t b : Day) → Exists t → Exists b → b.year ≤ last_year → count t < count b → count (next t) ≡ count t + 1
moves_before t b h g y l =
    next_moves t h
    (λ a m z. omega (arith, at_year_end t h a m, year_end b g, years_rise (b.year + 1) (t.year + 1) (omega arith)))

counts_to : (k : ℕ) (a b : Day) → Exists a → Exists b → b.year ≤ last_year → count a + k ≤ count b → count (after k a) ≡ count a + k
unfolding after
counts_to zero a b h g y l = omega arith
counts_to (suc k) a b h g y l =
    let e : count (after k a) ≡ count a + k = counts_to k a b h g y (omega arith) in
    moves_before (after k a) b (after_exists k a h) g y (omega arith) ∙ omega arith

-- As many days after a day as there are between it and a later one comes that one.
pub reaches : (a b : Day) → Exists a → Exists b → count a ≤ count b → b.year ≤ last_year → after (between a b) a ≡ b
unfolding between
reaches a b h g l y =
    one_day _ b (after_exists (count b - count a) a h) g (counts_to (count b - count a) a b h g y (omega arith) ∙ omega arith)
