-- Some calendars, worked out by hand.
-- Assumes nothing.
use Prim.Native.Nat.{ℕ}
use mathlib.Core.Path.{◌≡◌, refl}
use mathlib.Core.Bool.{true}
use mathlib.Core.List.{List, [], ◌∷◌}
use lib.ListN.{replicate}
use Rattle.cells.specs.Text.{among}
use Rattle.order.specs.Order.{some}
use Rattle.date.specs.Date.{leap, last_day, exists}
use Rattle.day.specs.Day.{day, next, after, years, months, count, weekday}
use Rattle.days.specs.Run.{upto0, days_at}
use Rattle.usage.specs.Usage.{no_occasions, no_hours, no_event}
use Rattle.usage.specs.Times.{fixes_times}
use Rattle.supplement.specs.Supplement.{saying, no_week, no_days}
use Rattle.supplement.specs.declared.Supplement.{Supplement}
use Rattle.course.specs.Plan.{Plan, Found, times_fixed, times_of, days_fixed}
use Rattle.course.specs.Calendar.{in_week, in_window, on_date, given, dose, doses, valid_days, valid_start, no, calendar_for}
use Rattle.std.specs.Prelude.{Option, Some}
use Rattle.usage.specs.declared.Instruction.{Instruction}

-- A usage of kind 2, so often a day.
abbrev times : ℕ → Option Instruction
times n =
    Some
    (record {
      class = 1;
      detail = 0;
      kind = 2;
      times = n;
      occasions = no_occasions;
      start = 24;
      hours = no_hours;
      event = no_event;
      about = 0;
    })

abbrev plan : ℕ → List Supplement → Plan
plan n xs = record { usage = times n; supplements = xs }

-- Mondays and Thursdays, from a Monday on.
abbrev twice_a_week : Supplement
twice_a_week = saying 87 0 0 (record { sunday = 0; monday = 1; tuesday = 0; wednesday = 0; thursday = 1; friday = 0; saturday = 0 }) 0 no_days 0 0 0 0 0

mondays : doses (plan 3 (twice_a_week ∷ [])) (day 2018 7 2) (day 2018 7 2) 0 8 ≡ 3 ∷ 0 ∷ 0 ∷ 3 ∷ 0 ∷ 0 ∷ 0 ∷ 3 ∷ []
unfolding doses dose given in_week after next weekday count years months last_day leap among times_of
mondays = refl

-- Two days on and one off, from the start date, which is not the issue date.
turns : doses (plan 4 (saying 73 2 1 no_week 0 no_days 0 0 0 0 0 ∷ [])) (day 2018 7 2) (day 2018 7 30) 0 7 ≡ 4 ∷ 4 ∷ 0 ∷ 4 ∷ 4 ∷ 0 ∷ 4 ∷ []
unfolding doses dose given among times_of
turns = refl

-- "No supplement means every day."
each : doses (plan 2 []) (day 2018 7 2) (day 2018 7 2) 0 3 ≡ 2 ∷ 2 ∷ 2 ∷ []
unfolding doses dose given times_of
each = refl

-- A date code of one day.
abbrev on : ℕ → ℕ → Supplement
on m d = saying 68 0 0 no_week m (record { d1 = d; d2 = 0; d3 = 0; d4 = 0; d5 = 0; d6 = 0 }) 0 0 0 0 0

-- "An every-month 31 gives nothing in a shorter month": from 30 March 2100 on, nothing in April.
every_31 : doses (plan 2 (on 0 31 ∷ [])) (day 2099 12 1) (day 2100 3 30) 0 33 ≡ 0 ∷ 2 ∷ replicate 31 0
unfolding doses dose given on_date in_window after next last_day leap among times_of days_at upto0 some
every_31 = refl

-- 1 July, named, in the twelve months from July 2018 on,
in_july : doses (plan 3 (on 7 1 ∷ [])) (day 2018 7 1) (day 2018 7 1) 0 2 ≡ 3 ∷ 0 ∷ []
unfolding doses dose given on_date in_window after next last_day leap among times_of days_at upto0 some
in_july = refl

-- and no more a year later.
a_year_later : doses (plan 3 (on 7 1 ∷ [])) (day 2018 7 1) (day 2019 6 30) 0 3 ≡ 0 ∷ 0 ∷ 0 ∷ []
unfolding doses dose given on_date in_window after next last_day leap among times_of days_at upto0 some
a_year_later = refl

-- The window of a sheet that was issued on the last day of July: it ends with June of the next year.
window_ends : doses (plan 3 (on 6 30 ∷ [])) (day 2018 7 31) (day 2019 6 29) 0 3 ≡ 0 ∷ 3 ∷ 0 ∷ []
unfolding doses dose given on_date in_window after next last_day leap among times_of days_at upto0 some
window_ends = refl

-- A sheet of 2 July 2018 with an RP whose supplement is a C.
abbrev counted : Found
counted = record { issue = day 2018 7 2; begins = true; plan = plan 3 (saying 67 0 0 no_week 0 no_days 87 2 0 0 0 ∷ []) }

-- 51 comes before 50,
a_day_early : calendar_for counted (day 2018 7 1) 7 0 ≡ no 51
unfolding calendar_for valid_days valid_start exists count years months last_day leap times_fixed fixes_times days_fixed among
a_day_early = refl

-- and 50 before 33.
no_doses : calendar_for counted (day 2018 7 2) 7 0 ≡ no 50
unfolding calendar_for valid_days valid_start exists count years months last_day leap times_fixed fixes_times days_fixed among
no_doses = refl
