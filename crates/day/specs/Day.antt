-- Days of the Gregorian calendar, one after the other. Document 02, ticket 3: "Days past 2099 follow the same calendar."
-- Assumes nothing.
use Rattle.std.specs.Prelude.{ℕ, zero, suc, ◌+◌, ◌-◌, ◌%◌, ◌≡◌, true, cond, ltb}
use Rattle.date.specs.Date.{leap, last_day, exists}
use Rattle.day.specs.declared.Day.{Day}

-- A day by its parts.
abbrev pub day : ℕ → ℕ → ℕ → Day
day y m d = record { year = y; month = m; day = d }

-- There is such a day.
abbrev pub Exists : Day → Type 0
Exists t = exists t.year t.month t.day ≡ true

-- A year is held in two bytes.
abbrev pub last_year : ℕ
last_year = 65535

-- The day after: in the same month, or the first of the next, or the first of the next year. The last day of the last year stays (ours: no sheet's
-- calendar comes near it).
unfoldable pub next : Day → Day
next t =
    cond (ltb t.day (last_day t.year t.month)) (day t.year t.month (t.day + 1))
    (cond (ltb t.month 12) (day t.year (t.month + 1) 1)
    (cond (ltb t.year last_year) (day (t.year + 1) 1 1) t))

-- The day k days after one.
unfoldable pub after : ℕ → Day → Day
after zero t = t
after (suc k) t = next (after k t)

-- The days of the years before a year,
unfoldable pub years : ℕ → ℕ
years zero = 0
years (suc y) = years y + cond (leap y) 366 365

-- and of the months of a year before a month.
unfoldable pub months : ℕ → ℕ → ℕ
months y zero = 0
months y (suc m) = months y m + last_day y m

-- The number of a day: the first day of year 0 is 1.
unfoldable pub count : Day → ℕ
count t = years t.year + months t.year t.month + t.day

-- How many days after one another comes; 0 where it comes before it.
unfoldable pub between : Day → Day → ℕ
between a b = count b - count a

-- Sunday is 0. (`Rattle.day.proofs.Laws.a_monday`: 2018-07-02 is a Monday.)
unfoldable pub weekday : Day → ℕ
weekday t = (count t + 5) % 7
