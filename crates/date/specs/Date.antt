-- Document 01, "Date: YYYYMMDD from 1868 to 2099, or era, two-digit year 01 to 99, MMDD", with the eras of document 02's ticket 1.
-- Assumes nothing.
use Rattle.std.specs.Prelude.{ℕ, ◌+◌, ◌*◌, ◌%◌, Bool, cond, not, ◌&&◌, ◌||◌, List, [], ◌∷◌, leb, ltb, eqb, length, get_or, take, drop, Err, Ok, Result}
use Rattle.cells.specs.Test.{Answer, took, refused}
use Rattle.number.specs.Number.{none, figures, value}
use Rattle.date.specs.declared.Date.{Date}
use Rattle.cells.specs.declared.Fault.{Fault}

-- "The day must exist (Gregorian)."
unfoldable pub leap : ℕ → Bool
leap y = eqb (y % 4) 0 && (not (eqb (y % 100) 0) || eqb (y % 400) 0)

-- the last day of a month; 0 where there is no such month
unfoldable pub last_day : ℕ → ℕ → ℕ
last_day y m = cond (eqb m 2 && leap y) 29 (get_or (0 ∷ 31 ∷ 28 ∷ 31 ∷ 30 ∷ 31 ∷ 30 ∷ 31 ∷ 31 ∷ 30 ∷ 31 ∷ 30 ∷ 31 ∷ []) m 0)

-- there is such a day
unfoldable pub exists : ℕ → ℕ → ℕ → Bool
exists y m d = leb 1 m && (leb m 12 && (leb 1 d && leb d (last_day y m)))

-- An era: its number in a date, what it adds to its years, and its first day as the number YYYYMMDD.
pub record Era : Type 0 where
  pub number : ℕ
  pub adds : ℕ
  pub first : ℕ

abbrev era : ℕ → ℕ → ℕ → Era
era k a f = record { number = k; adds = a; first = f }

-- "Eras 1 to 4 add 1867, 1911, 1925, 1988." "Add era 5, which adds 2018 to its year." "Meiji starts on 1868-01-01 (ours), Taisho on 1912-07-30, Showa
-- on 1926-12-25, Heisei on 1989-01-08, Reiwa on 2019-05-01."
abbrev pub eras : List Era
eras =
    era 1 1867 18680101 ∷
    era 2 1911 19120730 ∷
    era 3 1925 19261225 ∷
    era 4 1988 19890108 ∷
    era 5 2018 20190501 ∷
    []

-- what an era adds; 0 where there is no such era
abbrev pub adds_in : ℕ → List Era → ℕ
adds_in k [] = 0
adds_in k (e ∷ es) = cond (eqb k e.number) e.adds (adds_in k es)

unfoldable pub era_adds : ℕ → ℕ
era_adds k = adds_in k eras

-- a day as the number YYYYMMDD: of two days that exist, the earlier has the lower one
abbrev pub day_number : ℕ → ℕ → ℕ → ℕ
day_number y m d = y * 10000 + m * 100 + d

-- "Each ends the day before the next, Reiwa with 2099 (ours)": the first day after an era, given the eras after it.
abbrev pub next : List Era → ℕ
next [] = 21000101
next (e ∷ es) = e.first

-- the era in which a day lies; 0 where it lies in none
abbrev pub lying_in : ℕ → List Era → ℕ
lying_in n [] = 0
lying_in n (e ∷ es) = cond (leb e.first n && ltb n (next es)) e.number (lying_in n es)

-- "The era in force on that day."
unfoldable pub in_force : ℕ → ℕ → ℕ → ℕ
in_force y m d = lying_in (day_number y m d) eras

-- "The record keeps the style, and in era style which era": era 0 is western style.
abbrev pub date : ℕ → ℕ → ℕ → ℕ → Date
date era y m d = record { era = era; year = y; month = m; day = d }

-- the year can be written in the style: in era style as a year 01 to 99 of the era
unfoldable pub in_style : Date → Bool
in_style t =
    cond (eqb t.era 0) (leb 1868 t.year && leb t.year 2099)
    (leb t.era (length eras) && (leb (era_adds t.era + 1) t.year && leb t.year (era_adds t.era + 99)))

-- in era style the day lies in the era
unfoldable pub in_its_era : Date → Bool
in_its_era t = eqb t.era 0 || eqb t.era (in_force t.year t.month t.day)

-- A date, by three tests in this order: "27 for an era date outside its era, after the test that the day exists".
unfoldable pub is_date : Date → Bool
is_date t = in_style t && (exists t.year t.month t.day && in_its_era t)

-- two digits from offset i on
abbrev pub two : List ℕ → ℕ → ℕ
two s i = value 0 (take 2 (drop i s))

-- eight digits, YYYYMMDD
abbrev pub western : List ℕ → Date
western s = date 0 (value 0 (take 4 s)) (two s 4) (two s 6)

-- seven digits: era, two-digit year, MMDD
abbrev pub era_date : List ℕ → Date
era_date s = date (value 0 (take 1 s)) (era_adds (value 0 (take 1 s)) + two s 1) (two s 3) (two s 5)

-- Document 01's number and values of what a date is read or made as.
abbrev pub said : Result Date Fault → Answer Date
said (Ok t) = took t
said (Err f) = refused f.number f.place

-- The date, where it is one. "No such day or year is 27, place 0."
abbrev pub held : Date → Answer Date
held t = cond (is_date t) (took t) none

-- Eight digits are western style, seven are era style with an era 1 to 5.
unfoldable pub read_date : List ℕ → Answer Date
read_date s =
    cond (figures s)
    (cond (eqb (length s) 8) (held (western s)) (cond (eqb (length s) 7 && leb 1 (value 0 (take 1 s))) (held (era_date s)) none))
    none

-- What a caller makes by naming western style,
unfoldable pub make_western : ℕ → ℕ → ℕ → Answer Date
make_western y m d = held (date 0 y m d)

-- by naming era style: "a caller's era-style date now takes the era in force on that day" (where none is, there is no date in western style either),
unfoldable pub make_era : ℕ → ℕ → ℕ → Answer Date
make_era y m d = held (date (in_force y m d) y m d)

-- and with no style named
unfoldable pub make_date : ℕ → ℕ → ℕ → Answer Date
make_date y m d = make_era y m d
