-- The front of a record's array. What stands after it is cleared before the record is known, the front where it is.
-- Assumes nothing.
use Rattle.std.specs.Prelude.{ℕ, List}
use Rattle.std.proofs.lemmas.List.Edits.{sets}
use Rattle.plain.specs.Held.{filled}

-- As many numbers as the longest record has that has no code.
abbrev pub front_width : ℕ
front_width = 13

-- An array with these numbers at its front, and 0s after them as far as the front goes.
abbrev pub with_front : List ℕ → List ℕ → List ℕ
with_front s n = sets n 0 (filled front_width s)
