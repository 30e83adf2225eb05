-- Document 02, ticket 3: what a sheet's records have for an RP number, record by record.
-- Assumes nothing.
use Rattle.std.specs.Prelude.{ℕ, Bool, true, false, cond, List, [], ◌∷◌, eqb, None, Option}
use Rattle.date.specs.declared.Date.{Date}
use Rattle.supplement.specs.declared.Supplement.{Supplement}
use Rattle.counter.specs.declared.RpNumber.{RpNumber}
use Rattle.record.specs.Record.{with_supplement}
use Rattle.record.specs.declared.Record.{Record}
use Rattle.record.specs.declared.Record.TheVariants.{Issue, Rp, Usage, Supplement as Supply, Drug, Kept}
use Rattle.day.specs.Day.{day}
use Rattle.day.specs.declared.Day.{Day}
use Rattle.course.specs.Plan.{Found}
use Rattle.usage.specs.declared.Instruction.{Instruction}

-- Before the first record.
abbrev pub nothing : Found
nothing = record { issue = day 0 0 0; begins = false; plan = record { usage = None; supplements = [] } }

-- The day of a date.
abbrev pub day_of : Date → Day
day_of t = day t.year t.month t.day

-- A record is the RP's: "111, 181 and 201 carry their RP's" number.
abbrev pub owns : ℕ → RpNumber → Bool
owns rp n = eqb n.0 rp

-- What was found, with the issue date,
abbrev pub with_issue : Day → Found → Found
with_issue t w = record { issue = t; begins = w.begins; plan = w.plan }

-- with the RP begun,
abbrev pub begun : Found → Found
begun w = record { issue = w.issue; begins = true; plan = w.plan }

-- with its usage code,
abbrev pub with_usage : Option Instruction → Found → Found
with_usage u w = record { issue = w.issue; begins = w.begins; plan = record { usage = u; supplements = w.plan.supplements } }

-- or with more supplements.
abbrev pub with_supplements : List Supplement → Found → Found
with_supplements xs w = record { issue = w.issue; begins = w.begins; plan = record { usage = w.plan.usage; supplements = xs } }

-- One record more.
abbrev pub with_record : ℕ → Found → Record → Found
with_record rp w (Issue x) = with_issue (day_of x.date) w
with_record rp w (Rp x) = cond (owns rp x.rp) (begun w) w
with_record rp w (Usage x) = cond (owns rp x.rp) (with_usage x.code w) w
with_record rp w (Supply x) = cond (owns rp x.rp) (with_supplements (with_supplement w.plan.supplements x.code) w) w
with_record rp w (Drug x) = w
with_record rp w (Kept x) = w

-- The records, one after the other.
unfoldable pub with_records : ℕ → Found → List Record → Found
with_records rp w [] = w
with_records rp w (r ∷ rs) = with_records rp (with_record rp w r) rs

-- What a sheet's records have for an RP number.
abbrev pub found_in : ℕ → List Record → Found
found_in rp rs = with_records rp nothing rs
