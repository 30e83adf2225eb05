-- What the code keeps of the records, one after the other.
-- Assumes nothing.
use Rattle.std.specs.Prelude.{ℕ, ◌≡◌, Bool, true, false, cond, ◌&&◌, List, [], ◌∷◌, ltb, set, Err, None, Ok, Option, Result, Some}
use Rattle.day.specs.Day.{day}
use Rattle.day.specs.declared.Day.{Day}
use Rattle.days.specs.Run.{code_of}
use Rattle.supplement.specs.declared.Supplement.{Supplement}
use Rattle.record.specs.declared.Record.{Record}
use Rattle.record.specs.declared.Record.TheVariants.{Issue, Rp, Usage, Supplement as Supply, Drug, Kept}
use Rattle.record.specs.declared.Refusal.{Refusal}
use Rattle.reader.specs.File.{whole, stopped, read_file}
use Rattle.course.specs.Plan.{times_fixed, times_of}
use Rattle.course.specs.Kept.{rule_of, place, Keeps}
use Rattle.course.specs.declared.Rule.{Rule}
use Rattle.course.specs.declared.Rule.TheVariants.{Every, Turns, Weekly, Dates, Counted}
use Rattle.course.specs.declared.Course.{Course}
use Rattle.dose_calendar.specs.Found.{owns, day_of, found_in}
use Rattle.usage.specs.declared.Instruction.{Instruction}

-- ---- one supplement more
-- The first supplement makes the RP's rule.
abbrev pub joined : Rule → Supplement → Rule
joined Every x = rule_of x
joined (Turns on off) x = Turns on off
joined (Weekly w) x = Weekly w
joined Dates x = Dates
joined Counted x = Counted

-- One day marked.
abbrev pub mark_day : List Bool → ℕ → ℕ → List Bool
mark_day marks m d = cond (ltb m 13 && ltb d 32) (set marks (place m d) true) marks

-- The days of a code marked.
unfoldable pub mark_days : List Bool → ℕ → List ℕ → List Bool
mark_days marks m [] = marks
mark_days marks m (d ∷ ds) = mark_days (mark_day marks m d) m ds

-- Those of a supplement.
abbrev pub marked : List Bool → Supplement → List Bool
marked marks x = mark_days marks (code_of x).month (code_of x).days

-- ---- one record more
abbrev pub course : Day → Bool → Bool → ℕ → Rule → Course
course issue begins fixed times rule = record { issue = issue; begins = begins; fixed = fixed; times = times; rule = rule }

-- The course before the first record.
abbrev pub no_course : Course
no_course = course (day 0 0 0) false false 0 Every

abbrev pub joined_by : Rule → Option Supplement → Rule
joined_by rule (Some x) = joined rule x
joined_by rule None = rule

abbrev pub with_usage_of : Course → Option Instruction → Course
with_usage_of c u = course c.issue c.begins (times_fixed u) (times_of u) c.rule

abbrev pub with_rule : Course → Rule → Course
with_rule c rule = course c.issue c.begins c.fixed c.times rule

abbrev pub course_with : ℕ → Course → Record → Course
course_with rp c (Issue x) = course (day_of x.date) c.begins c.fixed c.times c.rule
course_with rp c (Rp x) = cond (owns rp x.rp) (course c.issue true c.fixed c.times c.rule) c
course_with rp c (Usage x) = cond (owns rp x.rp) (with_usage_of c x.code) c
course_with rp c (Supply x) = cond (owns rp x.rp) (with_rule c (joined_by c.rule x.code)) c
course_with rp c (Drug x) = c
course_with rp c (Kept x) = c

abbrev pub marked_by : List Bool → Option Supplement → List Bool
marked_by marks (Some x) = marked marks x
marked_by marks None = marks

abbrev pub marks_with : ℕ → List Bool → Record → List Bool
marks_with rp marks (Issue x) = marks
marks_with rp marks (Rp x) = marks
marks_with rp marks (Usage x) = marks
marks_with rp marks (Supply x) = cond (owns rp x.rp) (marked_by marks x.code) marks
marks_with rp marks (Drug x) = marks
marks_with rp marks (Kept x) = marks

-- What a file gives: its refusal, or the course of its records.
pub data Gives (s : List ℕ) (rp : ℕ) (marks : List Bool) : Result Course Refusal → Type 0 where
  refuses : {g : Result Course Refusal} (f : Refusal) → (read_file s).ending ≡ stopped f → g ≡ Err f → Gives s rp marks g
  gathers : {g : Result Course Refusal} (c : Course) → (read_file s).ending ≡ whole → Keeps c marks (found_in rp (read_file s).records) → g ≡ Ok c → Gives s rp marks g
