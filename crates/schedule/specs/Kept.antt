-- What is kept of an RP's supplements, in numbers, and whether a further one may stand after them. That this decides what `Schedule` says of the whole
-- list is proved (`Rattle.schedule.proofs.Laws.decides`).
-- Assumes nothing.
use Rattle.std.specs.Prelude.{ℕ, Bool, false, cond, ◌&&◌, List, [], ◌∷◌, eqb, ltb, length}
use Rattle.cells.specs.Text.{among}
use Rattle.days.specs.Run.{code_of, last_of, distance}
use Rattle.supplement.specs.declared.Supplement.{Supplement}
use Rattle.schedule.specs.declared.Schedule.{Schedule}

-- What is kept of a list whose last supplement is x: its letter, and of a date code the month, the last day, and whether it has six days.
abbrev pub keep_of : Supplement → Schedule
keep_of x = record { letter = x.letter; month = x.month; last = last_of (code_of x).days; full = eqb (length (code_of x).days) 6 }

-- What is kept of a list.
unfoldable pub kept : List Supplement → Schedule
kept [] = record { letter = 0; month = 0; last = 0; full = false }
kept (x ∷ []) = keep_of x
kept (x ∷ y ∷ xs) = kept (y ∷ xs)

-- "Days rise through all codes of one month, and a code with fewer than six days is the last of its month"; "months come in order of distance ahead of
-- the issue month": a date code of a month and a first day may stand after the one that is kept.
unfoldable pub after_date : ℕ → Schedule → ℕ → ℕ → Bool
after_date issue t month first =
    cond (eqb t.month month) (t.full && ltb t.last first)
    (ltb 0 t.month && (ltb 0 month && ltb (distance issue t.month) (distance issue month)))

-- "One I, W or C, or one date run; never V": a supplement may stand after those that are kept, where it is the first, or one more code of a date run.
unfoldable pub may_join : ℕ → Schedule → Supplement → Bool
may_join issue t x =
    cond (eqb t.letter 0) (among "IWCD" x.letter)
    (cond (eqb t.letter 68) (cond (eqb x.letter 68) (after_date issue t x.month x.days.d1) false) false)
