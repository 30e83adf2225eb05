-- What writing an instruction answers.
-- Assumes nothing.
use Rattle.std.specs.Prelude.{ℕ, List, Result}
use Rattle.cells.specs.Writing.{Writes}
use Rattle.cells.specs.declared.Fault.{Fault}
use Rattle.usage.specs.Usage.{read_usage}
use Rattle.usage.specs.declared.Instruction.{Instruction}

-- "35: code record that no code reads as" (ours: at 0). Else the sixteen characters are a code that reads as the record.
abbrev pub WritesUsage : Instruction → Result (List ℕ) Fault → Type 0
WritesUsage i w = Writes Instruction read_usage i w
