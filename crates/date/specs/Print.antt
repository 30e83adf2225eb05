-- The field that a date is written as. "YYYYMMDD from 1868 to 2099, or era, two-digit year 01 to 99, MMDD."
-- Assumes nothing.
use Rattle.std.specs.Prelude.{ℕ, ◌+◌, ◌-◌, ◌/◌, ◌%◌, cond, List, [], ◌∷◌, ◌++◌, eqb, length, replicate, Option, Some, None}
use Rattle.date.specs.Date.{era_adds, is_date}
use Rattle.date.specs.declared.Date.{Date}
use Rattle.date.specs.declared.Text.{Text}

-- The last digit of a number.
abbrev pub figure : ℕ → ℕ
figure n = 48 + n % 10

-- MM, DD and the two digits of an era's year.
abbrev pub figures2 : ℕ → List ℕ
figures2 n = figure (n / 10) ∷ figure n ∷ []

-- "YYYYMMDD."
abbrev pub in_western : Date → List ℕ
in_western t = figure (t.year / 1000) ∷ figure (t.year / 100) ∷ figures2 t.year ++ figures2 t.month ++ figures2 t.day

-- "Era, two-digit year 01 to 99, MMDD."
abbrev pub in_era : Date → List ℕ
in_era t = figure t.era ∷ figures2 (t.year - era_adds t.era) ++ figures2 t.month ++ figures2 t.day

-- "The record keeps the style": a date is written in its own; nothing, where it is no date.
unfoldable pub print_date : Date → List ℕ
print_date t = cond (is_date t) (cond (eqb t.era 0) (in_western t) (in_era t)) []

-- A field of at most eight characters by value: how many they are, they, and 0 bytes after them.
abbrev pub text : List ℕ → Text
text s = record { length = length s; bytes = s ++ replicate (8 - length s) 0 }

-- The field as an answer: none, where nothing is written.
abbrev pub printed : List ℕ → Option Text
printed s = cond (eqb (length s) 0) None (Some (text s))
