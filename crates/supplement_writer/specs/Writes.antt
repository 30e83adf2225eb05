-- What writing a supplementary code answers.
-- Assumes nothing.
use Rattle.std.specs.Prelude.{ℕ, List, Result}
use Rattle.cells.specs.Writing.{Writes}
use Rattle.cells.specs.declared.Fault.{Fault}
use Rattle.supplement.specs.Supplement.{read_supplement}
use Rattle.supplement.specs.declared.Supplement.{Supplement}

-- "35: code record that no code reads as" (ours: at 0). Else the eight characters are a code that reads as the record.
abbrev pub WritesSupplement : Supplement → Result (List ℕ) Fault → Type 0
WritesSupplement x w = Writes Supplement read_supplement x w
