-- What is kept of an RP, in numbers and marks, and its calendar by them. That this is the calendar which `Calendar` says of the RP is proved
-- (`Rattle.course.proofs.Laws.same_calendar`).
-- Assumes nothing.
use Rattle.std.specs.Prelude.{ℕ, zero, suc, ◌+◌, ◌*◌, ◌<◌, ◌≡◌, Bool, true, false, cond, not, ◌&&◌, ◌||◌, List, [], ◌∷◌, leb, length, get_or}
use Rattle.cells.specs.Text.{among}
use Rattle.day.specs.Day.{after, weekday}
use Rattle.day.specs.declared.Day.{Day}
use Rattle.supplement.specs.declared.Supplement.{Supplement}
use Rattle.course.specs.Plan.{Found, times_fixed, times_of}
use Rattle.course.specs.Calendar.{Calendar, unless, in_turn, in_week, in_window, names, valid_days, valid_start}
use Rattle.course.specs.declared.Rule.{Rule}
use Rattle.course.specs.declared.Rule.TheVariants.{Every, Turns, Weekly, Dates, Counted}
use Rattle.course.specs.declared.Course.{Course}

-- ---- what is kept
-- The rule of a supplement.
unfoldable pub rule_of : Supplement → Rule
rule_of x =
    cond (among "I" x.letter) (Turns x.on x.off) (cond (among "W" x.letter) (Weekly x.week) (cond (among "C" x.letter) Counted Dates))

-- The rule of an RP's supplements.
abbrev pub rule_in : List Supplement → Rule
rule_in [] = Every
rule_in (x ∷ xs) = rule_of x

-- The place of a day among the marks: 32 for each month.
abbrev pub place : ℕ → ℕ → ℕ
place m d = m * 32 + d

-- A mark stands for each day that the supplements name.
pub record Marks (marks : List Bool) (xs : List Supplement) : Type 0 where
  pub places : length marks ≡ 416
  pub each : (m d : ℕ) → m < 13 → d < 32 → get_or marks (place m d) false ≡ names xs m d

-- The course and the marks of what was found.
pub record Keeps (c : Course) (marks : List Bool) (w : Found) : Type 0 where
  pub issue : c.issue ≡ w.issue
  pub begins : c.begins ≡ w.begins
  pub fixed : c.fixed ≡ times_fixed w.plan.usage
  pub times : c.times ≡ times_of w.plan.usage
  pub rule : c.rule ≡ rule_in w.plan.supplements
  pub marked : Marks marks w.plan.supplements

-- ---- the doses
-- The marks of a day: for every month, or for its own in the window.
unfoldable pub on_mark : List Bool → Day → Day → Bool
on_mark marks issue t = get_or marks t.day false || (in_window issue t && get_or marks (place t.month t.day) false)

-- A dose on a day, k days after the start.
unfoldable pub given_by : Rule → List Bool → Day → Day → ℕ → Bool
given_by Every marks issue t k = true
given_by (Turns on off) marks issue t k = in_turn on off k
given_by (Weekly w) marks issue t k = in_week w (weekday t)
given_by Dates marks issue t k = on_mark marks issue t
given_by Counted marks issue t k = false

-- The doses of a day, k days after the start.
abbrev pub dose_on : Course → List Bool → Day → ℕ → ℕ
dose_on c marks t k = cond (given_by c.rule marks c.issue t k) c.times 0

-- The doses of n days from there on.
unfoldable pub doses_by : Course → List Bool → Day → ℕ → ℕ → List ℕ
doses_by c marks start k zero = []
doses_by c marks start k (suc n) = dose_on c marks (after k start) k ∷ doses_by c marks start (suc k) n

-- ---- refusals
-- A C supplement.
abbrev pub counted_by : Rule → Bool
counted_by Every = false
counted_by (Turns on off) = false
counted_by (Weekly w) = false
counted_by Dates = false
counted_by Counted = true

-- The calendar of what is kept.
unfoldable pub calendar_by : Course → List Bool → Day → ℕ → ℕ → Calendar
calendar_by c marks start n room =
    unless c.begins (valid_days n && valid_start c.issue start) (c.fixed && not (counted_by c.rule)) (leb n room) (doses_by c marks start 0 n)
