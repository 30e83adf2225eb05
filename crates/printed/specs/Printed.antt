-- The field that a value is written as: numbers, amounts, dates, codes.
-- Assumes nothing.
use Rattle.std.specs.Prelude.{ℕ, ◌-◌, Bool, false, cond, List, ◌++◌, length, replicate}
use Rattle.cells.specs.Test.{Answer, took, refused}
use Rattle.text.specs.Lent.{no_field}
use Rattle.date.specs.Date.{is_date}
use Rattle.date.specs.Print.{print_date}
use Rattle.date.specs.declared.Date.{Date}
use Rattle.usage.specs.Usage.{read_usage}
use Rattle.usage.specs.declared.Instruction.{Instruction}
use Rattle.usage_writer.specs.Print.{raw as usage_text, same as same_usage}
use Rattle.supplement.specs.Supplement.{read_supplement}
use Rattle.supplement.specs.declared.Supplement.{Supplement}
use Rattle.supplement_writer.specs.Print.{raw as supplement_text, agrees}
use Rattle.printed.specs.declared.Piece.{Piece}

-- A date in its own style.
unfoldable pub date_field : Date → List ℕ
date_field t = cond (is_date t) (print_date t) no_field

-- "Code record that no code reads as": a code is held where its characters read as it.
abbrev pub reads_as : Answer Instruction → Instruction → Bool
reads_as (took j) i = same_usage i j
reads_as (refused n p) i = false

-- The usage code that reads as an instruction.
unfoldable pub usage_field : Instruction → List ℕ
usage_field i = cond (reads_as (read_usage (usage_text i)) i) (usage_text i) no_field

-- The supplementary code that reads as a record.
unfoldable pub supplement_field : Supplement → List ℕ
supplement_field x = cond (agrees (read_supplement (supplement_text x)) x) (supplement_text x) no_field

-- A field of at most 24 characters by value: how many they are, they, and 0 bytes after them.
abbrev pub piece : List ℕ → Piece
piece s = record { length = length s; bytes = s ++ replicate (24 - length s) 0 }
