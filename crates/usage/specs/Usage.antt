-- Document 01, "Usage code, character by character". Places are counted from 1, and characters stand in quotes, as there.
-- Assumes nothing.
use Rattle.std.specs.Prelude.{ℕ, zero, suc, ◌+◌, ◌-◌, Bool, true, false, cond, ◌&&◌, List, [], ◌∷◌, ◌++◌, eqb, length, Err, Ok, Result}
use Prim.Native.String.{String}
use Rattle.cells.specs.Text.{among, index, at, digit}
use Rattle.cells.specs.Test.{Test, test, first, Answer, took, refused, judge}
use Rattle.cells.specs.Cells.{char, Cell, set, rising, cells}
use Rattle.usage.specs.declared.Occasions.{Occasions}
use Rattle.usage.specs.declared.Hours.{Hours}
use Rattle.usage.specs.declared.Event.{Event}
use Rattle.usage.specs.declared.Instruction.{Instruction}
use Rattle.cells.specs.declared.Fault.{Fault}

-- "A start hour A to X (A is 0 h, X is 23 h)": what a character says as an hour, 24 where it is none.
abbrev pub hours : String
hours = "ABCDEFGHIJKLMNOPQRSTUVWX"

-- The hour of a character.
unfoldable pub hour : ℕ → ℕ
hour c = index hours c

-- 0, or an hour.
abbrev pub hours_or0 : String
hours_or0 = "0ABCDEFGHIJKLMNOPQRSTUVWX"

-- 1 for a character that is not 0, and 0 for 0.
unfoldable pub used : ℕ → ℕ
used c = cond (among "0" c) 0 1

-- "1. 1 oral, 2 external." "2. Oral 0 to 3. External A B C D E F G H J K L M N P Q R S T U."
-- "3. Timing kind. Oral 1, 2, 3, 5, and 7 only with detail 3. External 5, 6, 7."
abbrev pub details : ℕ → String
details class = cond (among "1" class) "0123" "ABCDEFGHJKLMNPQRSTU"

-- The timing kinds of a class and a detail.
abbrev pub kinds : ℕ → ℕ → String
kinds class detail = cond (among "1" class) (cond (among "3" detail) "12357" "1235") "567"

-- "2, 3, 4: 1st character unknown; detail; timing kind", at 1, 2, 3.
abbrev pub frame : List ℕ → List Test
frame s =
    test 2 1 (among "12" (char s 1)) ∷ test 3 2 (among (details (char s 1)) (char s 2)) ∷ test 4 3 (among (kinds (char s 1) (char s 2)) (char s 3)) ∷ []

-- "Kind 1: 4th is 1 to 5; 5th bedtime 0 or 1; 6th supper, 7th lunch, 8th breakfast, each 0 to 6; 9th waking 0 or 9; 10th 0 or P (15 h)."
abbrev pub meal_cells : List Cell
meal_cells = set "12345" ∷ set "01" ∷ set "0123456" ∷ set "0123456" ∷ set "0123456" ∷ set "09" ∷ set "0P" ∷ []

-- "The 4th equals the number of non-zero characters from 5th to 10th" (else 7 at 4).
abbrev pub occasions : List ℕ → ℕ
occasions s = used (char s 5) + used (char s 6) + used (char s 7) + used (char s 8) + used (char s 9) + used (char s 10)

-- The test of the count.
abbrev pub counted : List ℕ → Test
counted s = test 7 4 (eqb (digit (char s 4)) (occasions s))

-- "P stands only with bedtime 1, meals 4 4 4, waking 0" (else 8 at 10). Waking 0 can never decide: with waking 9 there would be six
-- occasions, and 7 comes first.
abbrev pub full_day : List ℕ → Bool
full_day s = among "1" (char s 5) && (among "4" (char s 6) && (among "4" (char s 7) && (among "4" (char s 8) && among "0" (char s 9))))

-- The test of P.
abbrev pub at_fifteen : List ℕ → Test
at_fifteen s = test 8 10 (cond (among "P" (char s 10)) (full_day s) true)

-- The tests of kind 1.
abbrev pub meal_tests : List ℕ → List Test
meal_tests s = cells 13 3 meal_cells s ++ (counted s ∷ at_fifteen s ∷ [])

-- "Kind 2: 4th is 2, 3, 4, 6 or 8; 5th is 0 or a start hour A to X."
abbrev pub every_cells : List Cell
every_cells = set "23468" ∷ set hours_or0 ∷ []

-- The tests of kind 2.
abbrev pub every_tests : List ℕ → List Test
every_tests s = cells 13 3 every_cells s

-- "Kind 3: 4th is n, 1 to 8; the next n are hours A to X, strictly rising."
abbrev pub risings : ℕ → List Cell
risings zero = []
risings (suc n) = rising hours ∷ risings n

-- "1 to 8": as many counts as a code has hours at most (`hours_most`; `Rattle.usage.proofs.Laws.hours_most_lem`).
abbrev pub hour_counts : String
hour_counts = "12345678"

-- The 4th, the first hour, and n - 1 hours that rise.
abbrev pub clock_cells : ℕ → List Cell
clock_cells n = set hour_counts ∷ set hours ∷ risings (n - 1)

-- The tests of kind 3.
abbrev pub clock_tests : List ℕ → List Test
clock_tests s = cells 13 3 (clock_cells (digit (char s 4))) s

-- "Kind 5: 4th is 0; 5th to 7th a row of table 8; 8th one of 0 1 2 3 4 5 6 8 C; 9th one of 0 to 9, A, C."
-- Document 02, ticket 2: "its footnote lets the starred events take any of the conditions 0, 2, 4, 5, 6, 7. The starred ones are 31, 32, 51, 52, 71
-- and A1 to A9. So 63 rows become 127: 43 with condition 0, 14 with six each." The 43 stay document 01's: "11 to 17, 21 to 25, 41 to 49, 53, 61 to 67,
-- 72, 81, 82, 91, 92, B1 to B7, W1, W2 with condition 0". For each line the 5th, the 6th and the condition.
pub record Rows : Type 0 where
  pub fifth : String
  pub sixth : String
  pub condition : String

-- Rows by their three texts.
abbrev pub rows : String → String → String → Rows
rows a b c = record { fifth = a; sixth = b; condition = c }

-- The conditions of a starred event.
abbrev pub starred : String
starred = "024567"

-- The lines of the table.
abbrev pub table8 : List Rows
table8 =
    rows "1" "1234567" "0" ∷
    rows "2" "12345" "0" ∷
    rows "4" "123456789" "0" ∷
    rows "5" "3" "0" ∷
    rows "6" "1234567" "0" ∷
    rows "7" "2" "0" ∷
    rows "8" "12" "0" ∷
    rows "9" "12" "0" ∷
    rows "B" "1234567" "0" ∷
    rows "W" "12" "0" ∷
    rows "3" "12" starred ∷
    rows "5" "12" starred ∷
    rows "7" "1" starred ∷
    rows "A" "123456789" starred ∷ []

-- Three characters are one of the rows.
unfoldable pub in_table : List Rows → ℕ → ℕ → ℕ → Bool
in_table [] a b c = false
in_table (r ∷ rs) a b c = cond (among r.fifth a && (among r.sixth b && among r.condition c)) true (in_table rs a b c)

-- "8: table row or pair", at the first of its characters; "a table 8 row and a kind 7 pair are judged whole: any fault in them is 8".
abbrev pub row : List ℕ → Test
row s = test 8 5 (in_table table8 (char s 5) (char s 6) (char s 7))

-- The interval and the limit.
abbrev pub limit_cells : List Cell
limit_cells = set "01234568C" ∷ set "0123456789AC" ∷ []

-- The tests of kind 5.
abbrev pub event_tests : List ℕ → List Test
event_tests s = cells 1 3 (set "0" ∷ []) s ++ (row s ∷ cells 9 7 limit_cells s)

-- "Kind 6: 4th is 1 to 5; 5th 0 or 1; 6th and 8th 0, 9 or A; 7th and 9th 0 or 9; 10th 0 or A to X; 4th equals the non-zero number of
-- 5th to 10th."
abbrev pub outside_cells : List Cell
outside_cells = set "12345" ∷ set "01" ∷ set "09A" ∷ set "09" ∷ set "09A" ∷ set "09" ∷ set hours_or0 ∷ []

-- The tests of kind 6.
abbrev pub outside_tests : List ℕ → List Test
outside_tests s = cells 13 3 outside_cells s ++ (counted s ∷ [])

-- "Kind 7: 4th and 5th are one of 10 20 30 40 60 3A 4A 6A 12 1N 23 34 45."
abbrev pub pairs : List String
pairs = "10" ∷ "20" ∷ "30" ∷ "40" ∷ "60" ∷ "3A" ∷ "4A" ∷ "6A" ∷ "12" ∷ "1N" ∷ "23" ∷ "34" ∷ "45" ∷ []

-- Two characters are one of the pairs.
unfoldable pub in_pairs : List String → ℕ → ℕ → Bool
in_pairs [] a b = false
in_pairs (x ∷ xs) a b = cond (eqb a (at x 0) && eqb b (at x 1)) true (in_pairs xs a b)

-- The test of the pair.
abbrev pub pair : List ℕ → Test
pair s = test 8 4 (in_pairs pairs (char s 4) (char s 5))

-- The tests of kind 7.
abbrev pub pair_tests : List ℕ → List Test
pair_tests s = pair s ∷ cells 11 5 [] s

-- The tests of the 4th to the 16th character, by the timing kind.
unfoldable pub timing : List ℕ → List Test
timing s =
    cond (among "1" (char s 3)) (meal_tests s)
    (cond (among "2" (char s 3)) (every_tests s)
    (cond (among "3" (char s 3)) (clock_tests s)
    (cond (among "5" (char s 3)) (event_tests s) (cond (among "6" (char s 3)) (outside_tests s) (pair_tests s)))))

-- What a code says: of what its kind does not name, an hour is 24 and anything else is 0.
abbrev pub no_occasions : Occasions
no_occasions = record { bedtime = 0; supper = 0; lunch = 0; breakfast = 0; waking = 0; hour = 24 }

-- No hours.
abbrev pub no_hours : Hours
no_hours = record { h1 = 24; h2 = 24; h3 = 24; h4 = 24; h5 = 24; h6 = 24; h7 = 24; h8 = 24 }

-- No event.
abbrev pub no_event : Event
no_event = record { group = 0; event = 0; condition = 0; interval = 0; limit = 0 }

-- kind 1
abbrev pub meals : List ℕ → Occasions
meals s =
    record {
      bedtime = digit (char s 5);
      supper = digit (char s 6);
      lunch = digit (char s 7);
      breakfast = digit (char s 8);
      waking = used (char s 9);
      hour = hour (char s 10);
    }

-- kind 6: the 6th and the 8th say 0, 9 or A
abbrev pub outside : List ℕ → Occasions
outside s =
    record {
      bedtime = digit (char s 5);
      supper = digit (char s 6);
      lunch = used (char s 7);
      breakfast = digit (char s 8);
      waking = used (char s 9);
      hour = hour (char s 10);
    }

-- kind 3
abbrev pub clock : List ℕ → Hours
clock s =
    record {
      h1 = hour (char s 5);
      h2 = hour (char s 6);
      h3 = hour (char s 7);
      h4 = hour (char s 8);
      h5 = hour (char s 9);
      h6 = hour (char s 10);
      h7 = hour (char s 11);
      h8 = hour (char s 12);
    }

-- kind 5
abbrev pub event_of : List ℕ → Event
event_of s =
    record {
      group = digit (char s 5);
      event = digit (char s 6);
      condition = digit (char s 7);
      interval = digit (char s 8);
      limit = digit (char s 9);
    }

-- The whole instruction.
unfoldable pub says : List ℕ → Instruction
says s =
    record {
      class = digit (char s 1);
      detail = digit (char s 2);
      kind = digit (char s 3);
      times = digit (char s 4);
      occasions = cond (among "1" (char s 3)) (meals s) (cond (among "6" (char s 3)) (outside s) no_occasions);
      start = cond (among "2" (char s 3)) (hour (char s 5)) 24;
      hours = cond (among "3" (char s 3)) (clock s) no_hours;
      event = cond (among "5" (char s 3)) (event_of s) no_event;
      about = cond (among "7" (char s 3)) (digit (char s 5)) 0;
    }

-- "1: code not 16 long"; then the tests, from left to right.
unfoldable pub read_usage : List ℕ → Answer Instruction
read_usage s = cond (eqb (length s) 16) (judge (first (frame s ++ timing s)) (says s)) (refused 1 0)

-- Document 01's number and values of each answer.
abbrev pub said : Result Instruction Fault → Answer Instruction
said (Ok i) = took i
said (Err f) = refused f.number f.place
