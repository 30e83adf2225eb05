-- Document 01, "Date runs", and the set of days that a run names.
-- Assumes nothing.
use Rattle.std.specs.Prelude.{ℕ, zero, suc, ◌+◌, ◌-◌, ◌/◌, ◌%◌, ◌^◌, Bool, true, false, cond, ◌&&◌, List, [], ◌∷◌, ◌++◌, map, eqb, leb, ltb, length, get_or, take, drop, Result, Ok, Err}
use Rattle.cells.specs.Test.{Answer, took, refused}
use Rattle.supplement.specs.Supplement.{read_supplement}
use Rattle.supplement.specs.declared.Supplement.{Supplement}
use Rattle.supplement.specs.declared.Days.{Days}
use Rattle.days.specs.declared.DaySet.{DaySet}
use Rattle.days.specs.declared.Halt.{Halt}
use Rattle.days.specs.declared.Last.{Last}

-- A D code: its month, 0 for every month, and its days.
pub record Code : Type 0 where
  pub month : ℕ
  pub days : List ℕ

-- "A D code's days end at its first 0."
unfoldable pub upto0 : List ℕ → List ℕ
upto0 [] = []
upto0 (d ∷ ds) = cond (eqb d 0) [] (d ∷ upto0 ds)

-- The six columns of a code's days,
abbrev pub columns : Days → List ℕ
columns x = x.d1 ∷ x.d2 ∷ x.d3 ∷ x.d4 ∷ x.d5 ∷ x.d6 ∷ []

-- and the days.
abbrev pub six_of : Days → List ℕ
six_of x = upto0 (columns x)

-- The D code that a record is.
abbrev pub code_of : Supplement → Code
code_of x = record { month = x.month; days = six_of x.days }

-- "Distance ahead of the issue month, 0 to 11."
unfoldable pub distance : ℕ → ℕ → ℕ
distance issue m = (m + 12 - issue) % 12

-- The last of some days.
unfoldable pub last_of : List ℕ → ℕ
last_of [] = 0
last_of (d ∷ []) = d
last_of (d ∷ e ∷ es) = last_of (e ∷ es)

-- "Days rise through all codes of one month, and a code with fewer than six days is the last of its month (ours)." "All are every-month, or
-- months come in order of distance ahead of the issue month": b may stand just after a.
unfoldable pub follows : ℕ → Code → Code → Bool
follows issue a b =
    cond (eqb a.month b.month) (eqb (length a.days) 6 && ltb (last_of a.days) (get_or b.days 0 0))
    (ltb 0 a.month && (ltb 0 b.month && ltb (distance issue a.month) (distance issue b.month)))

-- What a code of a month and days is followed by,
abbrev pub last_date : ℕ → List ℕ → Last
last_date m ds = record { month = m; day = last_of ds; full = eqb (length ds) 6 }

-- and that one of a month and a first day may stand just after it: `follows`, by no more of both codes than it needs.
unfoldable pub goes_on : ℕ → Last → ℕ → ℕ → Bool
goes_on issue a month first =
    cond (eqb a.month month) (a.full && ltb a.day first)
    (ltb 0 a.month && (ltb 0 month && ltb (distance issue a.month) (distance issue month)))

-- "A run is one or more D codes": each but the first may stand just after the one before it.
unfoldable pub allowed : ℕ → List Code → Bool
allowed issue [] = false
allowed issue (a ∷ []) = true
allowed issue (a ∷ b ∷ cs) = follows issue a b && allowed issue (b ∷ cs)

-- Eight characters to a code, n codes.
unfoldable pub eights : ℕ → List ℕ → List (List ℕ)
eights zero s = []
eights (suc n) s = take 8 s ∷ eights n (drop 8 s)

-- What stops a run: a number, its place, and for a code's own refusal the code's number; the number 0 says that nothing does.
pub record Stop : Type 0 where
  pub number : ℕ
  pub place : ℕ
  pub code : ℕ

-- What stops a run, by its parts.
abbrev pub stopped : ℕ → ℕ → ℕ → Stop
stopped n p k = record { number = n; place = p; code = k }

-- "Code by code its own refusal (the code number with it) and 12": "the codes up to this one begin no allowed run". Every beginning of an
-- allowed run is an allowed run (`Rattle.days.proofs.Laws.beginning`), so they begin one exactly when they are one. A code that reads but is
-- no D code begins none. The codes before this one are `seen`, and its number is k.
unfoldable pub stop : ℕ → List Code → ℕ → List (Answer Supplement) → Stop
stop issue seen k [] = stopped 0 0 0
stop issue seen k (refused n p ∷ more) = stopped n p k
stop issue seen k (took x ∷ more) =
    cond (eqb x.letter 68 && allowed issue (seen ++ (code_of x ∷ []))) (stop issue (seen ++ (code_of x ∷ [])) (k + 1) more) (stopped 12 k 0)

-- The codes of a run that nothing stops.
unfoldable pub codes_of : List (Answer Supplement) → List Code
codes_of [] = []
codes_of (refused n p ∷ more) = codes_of more
codes_of (took x ∷ more) = code_of x ∷ codes_of more

-- A set of days as a mask: day d is bit d - 1.
unfoldable pub mask_of : List ℕ → ℕ
mask_of [] = 0
mask_of (d ∷ ds) = 2 ^ (d - 1) + mask_of ds

-- The days that codes name for a month.
unfoldable pub days_at : ℕ → List Code → List ℕ
days_at m [] = []
days_at m (c ∷ cs) = cond (eqb c.month m) c.days [] ++ days_at m cs

-- "A day set has thirteen cells, every-month and twelve named months."
abbrev pub thirteen : List ℕ
thirteen = 0 ∷ 1 ∷ 2 ∷ 3 ∷ 4 ∷ 5 ∷ 6 ∷ 7 ∷ 8 ∷ 9 ∷ 10 ∷ 11 ∷ 12 ∷ []

-- The set that codes name, cell by cell.
unfoldable pub set_of : List Code → List ℕ
set_of cs = map (λ m. mask_of (days_at m cs)) thirteen

-- The set with no day.
abbrev pub no_days : List ℕ
no_days = 0 ∷ 0 ∷ 0 ∷ 0 ∷ 0 ∷ 0 ∷ 0 ∷ 0 ∷ 0 ∷ 0 ∷ 0 ∷ 0 ∷ 0 ∷ []

-- What a run is read as: the number 0 and the days that it names; or what stops it, and no days.
pub record Run : Type 0 where
  pub number : ℕ
  pub place : ℕ
  pub code : ℕ
  pub days : DaySet

-- The answers to a run: a set of days, or what stops it and no days.
abbrev pub takes : List ℕ → Run
takes cells = record { number = 0; place = 0; code = 0; days = record { cells = cells } }

-- A run that was stopped.
abbrev pub refuses : Stop → Run
refuses t = record { number = t.number; place = t.place; code = t.code; days = record { cells = no_days } }

-- The set where nothing stops the run.
abbrev pub concluded : Stop → List ℕ → Run
concluded t cells = cond (eqb t.number 0) (takes cells) (refuses t)

-- "10: issue month not 1 to 12."
abbrev pub a_month : ℕ → Bool
a_month issue = leb 1 issue && leb issue 12

-- What each code of a run reads as.
abbrev pub answers_in : List ℕ → List (Answer Supplement)
answers_in s = map read_supplement (eights (length s / 8) s)

-- "Runs: 10, 1, then code by code its own refusal and 12"; "12: or run empty (0)"; "1: run not whole codes".
unfoldable pub read_run : ℕ → List ℕ → Run
read_run issue s =
    cond (a_month issue)
    (cond (eqb (length s % 8) 0)
    (cond (eqb (length s) 0) (refuses (stopped 12 0 0)) (concluded (stop issue [] 1 (answers_in s)) (set_of (codes_of (answers_in s)))))
    (refuses (stopped 1 0 0)))
    (refuses (stopped 10 0 0))

-- The answer that says it: the set where nothing stops the run, else what stops it.
abbrev pub answered : Run → Result DaySet Halt
answered r = cond (eqb r.number 0) (Ok r.days) (Err (record { number = r.number; place = r.place; code = r.code }))

-- What an answer says (`Rattle.days.proofs.Laws.told`).
abbrev pub told_run : Result DaySet Halt → Run
told_run (Ok d) = takes d.cells
told_run (Err h) = refuses (stopped h.number h.place h.code)
