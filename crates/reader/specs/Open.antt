-- The tests of the whole file, before any record: "Files: 20, 21, 22".
-- Assumes nothing.
use Rattle.std.specs.Prelude.{ℕ, Bool, List, [], ◌∷◌, ◌++◌, leb, eqb, length, take}
use Rattle.cells.specs.Limits.{file_most}
use Rattle.cells.specs.Text.{bytes}
use Rattle.cells.specs.Test.{test, first}
use Rattle.cells.specs.Same.{eqs}
use Rattle.cells.specs.declared.Fault.{Fault}
use Rattle.line.specs.Frame.{frame_fault}

-- "Version line `JAHIS5`", ended by its CR.
unfoldable pub version_line : List ℕ → Bool
version_line s = eqs (take 7 s) (bytes "JAHIS5" ++ (0x0d ∷ []))

-- The numbers of the whole file.
abbrev pub whole_file : List ℕ
whole_file = 20 ∷ 21 ∷ 22 ∷ []

-- "20 file too long (0)", "at most 16,384 bytes"; "21 first byte where no well framed file agrees, or the end (offset)"; "22 version line (0)".
unfoldable pub file_fault : List ℕ → Fault
file_fault s =
    first (test 20 0 (leb (length s) file_most) ∷ test 21 (frame_fault s).place (eqb (frame_fault s).number 0) ∷ test 22 0 (version_line s) ∷ [])
