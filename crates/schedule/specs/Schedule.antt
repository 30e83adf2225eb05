-- Document 01: "In an RP, kind 8 records hold one I, W or C, or one date run for the month of record 51; never V."
-- Assumes nothing.
use Rattle.std.specs.Prelude.{ℕ, Bool, true, false, ◌&&◌, ◌||◌, List, [], ◌∷◌, map}
use Rattle.cells.specs.Text.{among}
use Rattle.days.specs.Run.{code_of, allowed}
use Rattle.supplement.specs.declared.Supplement.{Supplement}

-- All of them are date codes.
unfoldable pub dates : List Supplement → Bool
dates [] = true
dates (x ∷ xs) = among "D" x.letter && dates xs

-- "One date run for the month of record 51."
unfoldable pub date_run : ℕ → List Supplement → Bool
date_run issue xs = dates xs && allowed issue (map code_of xs)

-- "One I, W or C."
unfoldable pub single : List Supplement → Bool
single [] = false
single (x ∷ []) = among "IWC" x.letter
single (x ∷ y ∷ xs) = false

-- An RP's list: none, "one I, W or C, or one date run". Every beginning of such a list is one (`Rattle.schedule.proofs.Laws.beginning`), so a
-- supplement "with those before it in its RP begins no allowed list" (31) exactly when it is no such list with them.
unfoldable pub list : ℕ → List Supplement → Bool
list issue [] = true
list issue (x ∷ xs) = single (x ∷ xs) || date_run issue (x ∷ xs)
