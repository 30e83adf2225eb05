-- Document 01, "Worked by hand": the rows marked ● that are codes or runs, as document 02's tickets have left them, one table with one proof.
-- Assumes nothing.
use Prim.Native.Nat.{ℕ}
use Prim.Native.String.{String}
use mathlib.Core.Path.{◌≡◌, refl}
use mathlib.Core.List.{List, [], ◌∷◌, map}
use Rattle.cells.specs.Text.{among, index, digit, bytes}
use Rattle.cells.specs.Test.{first, Answer, took, refused}
use Rattle.cells.specs.Cells.{cells}
use Rattle.usage.specs.Usage.{hour, used, in_table, in_pairs, timing, says, read_usage, no_occasions, no_hours, no_event}
use Rattle.usage.specs.declared.Instruction.{Instruction}
use Rattle.supplement.specs.Amount.{may, next, columns, figures_of, decimals_of, places_of}
use Rattle.supplement.specs.Supplement.{last_day, empty_week, more_days, read_supplement, saying, no_week, no_days}
use Rattle.supplement.specs.Supplement as S
use Rattle.supplement.specs.declared.Supplement.{Supplement}
use Rattle.days.specs.Run.{upto0, distance, last_of, follows, allowed, eights, stop, stopped, codes_of, mask_of, days_at, set_of, takes, refuses, read_run, Run}

-- A row's input: a usage code, a supplementary code, or a run for an issue month.
data Input : Type 0 where
  usage : String → Input
  supplement : String → Input
  run : ℕ → String → Input

data Result : Type 0 where
  instruction : Answer Instruction → Result
  supplemented : Answer Supplement → Result
  days : Run → Result

read : Input → Result
read (usage t) = instruction (read_usage (bytes t))
read (supplement t) = supplemented (read_supplement (bytes t))
read (run issue t) = days (read_run issue (bytes t))

record Row : Type 0 where
  input : Input
  result : Result

row : Input → Result → Row
row i r = record { input = i; result = r }

-- Oral: the detail, the times; bedtime, supper, lunch, breakfast, waking, the hour (24 for none).
oral : ℕ → ℕ → ℕ → ℕ → ℕ → ℕ → ℕ → ℕ → Result
oral detail times bedtime supper lunch breakfast waking h =
    instruction (took (record {
      class = 1;
      detail = detail;
      kind = 1;
      times = times;
      occasions = record { bedtime = bedtime; supper = supper; lunch = lunch; breakfast = breakfast; waking = waking; hour = h };
      start = 24;
      hours = no_hours;
      event = no_event;
      about = 0;
    }))

three_hours : ℕ → ℕ → ℕ → Result
three_hours a b c =
    instruction (took (record {
      class = 1;
      detail = 0;
      kind = 3;
      times = 3;
      occasions = no_occasions;
      start = 24;
      hours = record { h1 = a; h2 = b; h3 = c; h4 = 24; h5 = 24; h6 = 24; h7 = 24; h8 = 24 };
      event = no_event;
      about = 0;
    }))

-- As needed, with no interval and no limit: the event, the condition.
as_needed : ℕ → ℕ → ℕ → Result
as_needed group event condition =
    instruction (took (record {
      class = 1;
      detail = 0;
      kind = 5;
      times = 0;
      occasions = no_occasions;
      start = 24;
      hours = no_hours;
      event = record { group = group; event = event; condition = condition; interval = 0; limit = 0 };
      about = 0;
    }))

rows : List Row
rows =
    -- oral, three times, after each meal
    row (usage "1013044400000000") (oral 0 3 0 4 4 4 0 24) ∷
    row (usage "131514440P000000") (oral 3 5 1 4 4 4 0 15) ∷
    row (usage "1012044400000000") (instruction (refused 7 4)) ∷
    -- supper during the meal
    row (usage "1013064400000000") (oral 0 3 0 6 4 4 0 24) ∷
    row (usage "1013074400000000") (instruction (refused 5 6)) ∷
    row (usage "101200040P000000") (instruction (refused 8 10)) ∷
    row (usage "1033IMS000000000") (three_hours 8 12 18) ∷
    -- blood pressure up, taken since ticket 2
    row (usage "1050310000000000") (as_needed 3 1 0) ∷
    -- Monday, Thursday
    row (supplement "W0100100")
    (supplemented (took (saying 87 0 0
    (record { sunday = 0; monday = 1; tuesday = 0; wednesday = 0; thursday = 1; friday = 0; saturday = 0 }) 0 no_days 0 0 0 0 0))) ∷
    -- December 10, 20, 30 and January 15, 30
    row (run 12 "DCAKU000D1FU0000")
    (days (takes (0 ∷ mask_of (15 ∷ 30 ∷ []) ∷ 0 ∷ 0 ∷ 0 ∷ 0 ∷ 0 ∷ 0 ∷ 0 ∷ 0 ∷ 0 ∷ 0 ∷ mask_of (10 ∷ 20 ∷ 30 ∷ []) ∷ []))) ∷
    row (run 1 "DCAKU000D1FU0000") (days (refuses (stopped 12 2 0))) ∷
    row (supplement "D2TU0000") (supplemented (refused 8 4)) ∷
    -- order 3, 1.0
    row (supplement "V31.0NNN") (supplemented (took (saying 86 0 0 no_week 0 no_days 0 0 3 10 1))) ∷ []

worked : map (λ r. read r.input) rows ≡ map (λ r. r.result) rows
unfolding rows row oral three_hours as_needed read bytes among index digit first cells hour used in_table in_pairs timing says read_usage
    may next columns figures_of decimals_of places_of last_day empty_week more_days S.says read_supplement
    upto0 distance last_of follows allowed eights stop codes_of mask_of days_at set_of read_run
worked = refl
