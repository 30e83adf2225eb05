-- Document 02, ticket 3: "dose calendar for the packing machine".
-- Assumes nothing.
use Rattle.std.specs.Prelude.{ℕ, zero, suc, ◌+◌, ◌*◌, ◌%◌, Bool, true, false, cond, ◌&&◌, ◌||◌, List, [], ◌∷◌, ◌++◌, map, leb, ltb, eqb, length, get_or, drop, Err, Ok, Result, ⊤}
use Rattle.cells.specs.Text.{among}
use Rattle.cells.specs.Test.{fault}
use Rattle.order.specs.Order.{among as stands}
use Rattle.date.specs.Date.{exists}
use Rattle.day.specs.Day.{after, count, weekday}
use Rattle.day.specs.declared.Day.{Day}
use Rattle.days.specs.Run.{code_of, days_at}
use Rattle.supplement.specs.declared.Week.{Week}
use Rattle.supplement.specs.declared.Supplement.{Supplement}
use Rattle.record.specs.declared.Refusal.{Refusal}
use Rattle.course.specs.Plan.{Plan, Found, fixed, times_of}

-- ---- which days have a dose
-- "I runs its days on, then its days off, from the start date": k days after it.
abbrev pub in_turn : ℕ → ℕ → ℕ → Bool
in_turn on off k = ltb (k % (on + off)) on

-- "W goes by weekday": Sunday first.
unfoldable pub in_week : Week → ℕ → Bool
in_week w n = eqb (get_or (w.sunday ∷ w.monday ∷ w.tuesday ∷ w.wednesday ∷ w.thursday ∷ w.friday ∷ w.saturday ∷ []) n 0) 1

-- Months, counted on from year to year.
abbrev pub month_count : Day → ℕ
month_count t = t.year * 12 + t.month

-- "The twelve months that begin with the issue month."
unfoldable pub in_window : Day → Day → Bool
in_window issue t = leb (month_count issue) (month_count t) && ltb (month_count t) (month_count issue + 12)

-- Date codes name a day of a month, 0 for every month.
abbrev pub names : List Supplement → ℕ → ℕ → Bool
names xs m d = stands (days_at m (map code_of xs)) d

-- "D by date; an every-month 31 gives nothing in a shorter month. Named months count only in the twelve months that begin with the issue month."
unfoldable pub on_date : List Supplement → Day → Day → Bool
on_date xs issue t = names xs 0 t.day || (in_window issue t && names xs t.month t.day)

-- A dose on a day, k days after the start: "no supplement means every day"; C names no day; what is neither I, W nor C is a date run (never V).
unfoldable pub given : List Supplement → Day → Day → ℕ → Bool
given [] issue t k = true
given (x ∷ xs) issue t k =
    cond (among "I" x.letter) (in_turn x.on x.off k)
    (cond (among "W" x.letter) (in_week x.week (weekday t))
    (cond (among "C" x.letter) false (on_date (x ∷ xs) issue t)))

-- The doses of the day that is k days after the start,
unfoldable pub dose : Plan → Day → Day → ℕ → ℕ
dose p issue start k = cond (given p.supplements issue (after k start) k) (times_of p.usage) 0

-- and of n days from there on.
unfoldable pub doses : Plan → Day → Day → ℕ → ℕ → List ℕ
doses p issue start k zero = []
doses p issue start k (suc n) = dose p issue start k ∷ doses p issue start (suc k) n

-- ---- what is refused
-- "A number of days, 1 to 366."
unfoldable pub valid_days : ℕ → Bool
valid_days n = leb 1 n && leb n 366

-- "A start that is no day from 1868 to 2099, or one before the issue date." (Days compare as their counts: `Rattle.day.proofs.Laws.earlier`.)
unfoldable pub valid_start : Day → Day → Bool
valid_start issue start =
    leb 1868 start.year && (leb start.year 2099 && (exists start.year start.month start.day && leb (count issue) (count start)))

-- What a calendar is: the doses of each day, or a refusal.
pub data Calendar : Type 0 where
  Doses : List ℕ → Calendar
  Not : Refusal → Calendar

-- A refusal of what is asked for has no place in the file.
abbrev pub no_place : ℕ → Refusal
no_place number = record { fault = fault number 0; at = 0; field = 0; code = 0 }

-- No calendar, by such a number.
abbrev pub no : ℕ → Calendar
no number = Not (no_place number)

-- "53 no such RP; 51 for a bad number of days, a start that is no day from 1868 to 2099, or one before the issue date; then 50 where the RP has a C
-- supplement, no code, kind 5, or an about or range count; then 33 exactly when the lent output has fewer places than days": the calendar, where none
-- of them is due.
abbrev pub unless : Bool → Bool → Bool → Bool → List ℕ → Calendar
unless begins valid fixes fits ds = cond begins (cond valid (cond fixes (cond fits (Doses ds) (no 33)) (no 50)) (no 51)) (no 53)

-- The calendar of what a sheet has for an RP number.
unfoldable pub calendar_for : Found → Day → ℕ → ℕ → Calendar
calendar_for w start n room =
    unless w.begins (valid_days n && valid_start w.issue start) (fixed w.plan) (leb n room) (doses w.plan w.issue start 0 n)

-- ---- what a call answers
-- Filled, or refused: document 01's number and place are the refusal's.
pub data Told : Type 0 where
  Fills : Told
  Refuses : Refusal → Told

-- What the code answers.
abbrev pub said : Result ⊤ Refusal → Told
said (Ok _) = Fills
said (Err f) = Refuses f

-- What is told, and every place of the lent output after it: the doses, and behind them what stood there; "lent bytes stay" where it is refused.
pub record Outcome : Type 0 where
  pub told : Told
  pub output : List ℕ

-- By the calendar.
abbrev pub answers : Calendar → List ℕ → Outcome
answers (Doses ds) out = record { told = Fills; output = ds ++ drop (length ds) out }
answers (Not f) out = record { told = Refuses f; output = out }
