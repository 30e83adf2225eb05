-- Document 01, "Supplementary code". Places are counted from 1, and characters stand in quotes, as there.
-- Assumes nothing.
use Rattle.std.specs.Prelude.{ℕ, zero, suc, ◌+◌, Bool, false, cond, not, List, [], ◌∷◌, ◌++◌, eqb, length, get_or, Err, Ok, Result}
use Prim.Native.String.{String}
use Rattle.cells.specs.Text.{among, digit}
use Rattle.cells.specs.Test.{Test, test, first, Answer, took, refused, judge}
use Rattle.cells.specs.Cells.{char, Cell, set, upto, rising_upto, cells}
use Rattle.supplement.specs.Amount.{columns, nothing, figures_of, places_of}
use Rattle.supplement.specs.declared.Week.{Week}
use Rattle.supplement.specs.declared.Days.{Days}
use Rattle.supplement.specs.declared.Supplement.{Supplement}
use Rattle.cells.specs.declared.Fault.{Fault}

-- "A value 1 to 31 is written 1 to 9, A to V; up to 35, on to Z."
abbrev pub to31 : String
to31 = "123456789ABCDEFGHIJKLMNOPQRSTUV"

-- 1 to 35.
abbrev pub to35 : String
to35 = "123456789ABCDEFGHIJKLMNOPQRSTUVWXYZ"

-- "A day must exist in its month (February 29; every month 31)": the last day of every month, then of months 1 to 12.
unfoldable pub last_day : ℕ → ℕ
last_day m = get_or (31 ∷ 31 ∷ 29 ∷ 31 ∷ 30 ∷ 31 ∷ 30 ∷ 31 ∷ 31 ∷ 30 ∷ 31 ∷ 30 ∷ 31 ∷ []) m 0

-- "I: days on, days off, each 1 to 31."
abbrev pub interval_cells : List Cell
interval_cells = set to31 ∷ set to31 ∷ []

-- "W: seven of 0 or 1, Sunday first, not all 0" (else 8 at 2).
abbrev pub week_cells : List Cell
week_cells = set "01" ∷ set "01" ∷ set "01" ∷ set "01" ∷ set "01" ∷ set "01" ∷ set "01" ∷ []

-- The place of a day that is not meant.
abbrev pub no_day : ℕ → List ℕ → Bool
no_day p s = among "0" (char s p)

-- No day of the week is meant.
unfoldable pub empty_week : List ℕ → Bool
empty_week s =
    cond (no_day 2 s) (cond (no_day 3 s) (cond (no_day 4 s) (cond (no_day 5 s) (cond (no_day 6 s) (cond (no_day 7 s) (no_day 8 s) false) false) false) false) false) false

-- "D: month 1 to 9, A to C, or 0 for every month; then one to six days, strictly rising, then 0s." "A D code's days end at its first 0":
-- the cells of the days after the first, k characters from offset i on.
unfoldable pub more_days : ℕ → ℕ → ℕ → List ℕ → List Cell
more_days last zero i s = []
more_days last (suc k) i s = cond (among "0" (get_or s i 0)) [] (rising_upto last to31 ∷ more_days last k (i + 1) s)

-- The month, the first day, and the days after it.
abbrev pub date_cells : List ℕ → List Cell
date_cells s = set "0123456789ABC" ∷ upto (last_day (digit (char s 2))) to31 ∷ more_days (last_day (digit (char s 2))) 5 3 s

-- "C: Y, M or W; a count 1 to 35."
abbrev pub count_cells : List Cell
count_cells = set "YMW" ∷ set to35 ∷ []

-- "V: order 1 to 5; an amount in six columns."
abbrev pub amount_cells : List ℕ → List Cell
amount_cells s = set "12345" ∷ columns nothing 6 2 s

-- "2: 1st character unknown." Then the code's own characters, from the 2nd to the 8th.
abbrev pub rest : List ℕ → List Test
rest s =
    cond (among "I" (char s 1)) (cells 7 1 interval_cells s)
    (cond (among "W" (char s 1)) (cells 7 1 week_cells s ++ (test 8 2 (not (empty_week s)) ∷ []))
    (cond (among "D" (char s 1)) (cells 7 1 (date_cells s) s)
    (cond (among "C" (char s 1)) (cells 7 1 count_cells s)
    (cells 7 1 (amount_cells s) s))))

-- The letter, then the rest.
abbrev pub tests : List ℕ → List Test
tests s = test 2 1 (among "IWDCV" (char s 1)) ∷ rest s

-- What a code says; what its letter does not name is 0.
abbrev pub saying : ℕ → ℕ → ℕ → Week → ℕ → Days → ℕ → ℕ → ℕ → ℕ → ℕ → Supplement
saying letter on off week month days period count order figures places =
    record {
      letter = letter;
      on = on;
      off = off;
      week = week;
      month = month;
      days = days;
      period = period;
      count = count;
      order = order;
      figures = figures;
      places = places;
    }

-- No week.
abbrev pub no_week : Week
no_week = record { sunday = 0; monday = 0; tuesday = 0; wednesday = 0; thursday = 0; friday = 0; saturday = 0 }

-- No days.
abbrev pub no_days : Days
no_days = record { d1 = 0; d2 = 0; d3 = 0; d4 = 0; d5 = 0; d6 = 0 }

-- The week of a W code.
abbrev pub week_of : List ℕ → Week
week_of s =
    record {
      sunday = digit (char s 2);
      monday = digit (char s 3);
      tuesday = digit (char s 4);
      wednesday = digit (char s 5);
      thursday = digit (char s 6);
      friday = digit (char s 7);
      saturday = digit (char s 8);
    }

-- The days of a D code.
abbrev pub days_of : List ℕ → Days
days_of s =
    record {
      d1 = digit (char s 3);
      d2 = digit (char s 4);
      d3 = digit (char s 5);
      d4 = digit (char s 6);
      d5 = digit (char s 7);
      d6 = digit (char s 8);
    }

-- By the letter.
unfoldable pub says : List ℕ → Supplement
says s =
    cond (among "I" (char s 1)) (saying (char s 1) (digit (char s 2)) (digit (char s 3)) no_week 0 no_days 0 0 0 0 0)
    (cond (among "W" (char s 1)) (saying (char s 1) 0 0 (week_of s) 0 no_days 0 0 0 0 0)
    (cond (among "D" (char s 1)) (saying (char s 1) 0 0 no_week (digit (char s 2)) (days_of s) 0 0 0 0 0)
    (cond (among "C" (char s 1)) (saying (char s 1) 0 0 no_week 0 no_days (char s 2) (digit (char s 3)) 0 0 0)
    (saying (char s 1) 0 0 no_week 0 no_days 0 0 (digit (char s 2)) (figures_of 0 6 2 s) (places_of 6 2 s)))))

-- "1: code not 8 long"; then the tests, from left to right.
unfoldable pub read_supplement : List ℕ → Answer Supplement
read_supplement s = cond (eqb (length s) 8) (judge (first (tests s)) (says s)) (refused 1 0)

-- Document 01's number and values of each answer.
abbrev pub said : Result Supplement Fault → Answer Supplement
said (Ok x) = took x
said (Err f) = refused f.number f.place
