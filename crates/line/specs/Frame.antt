-- Document 01, "The file": lines, each ended by CR LF, then one byte 1Ah.
-- Assumes nothing.
use Rattle.std.specs.Prelude.{ℕ, ◌+◌, ◌≤◌, ◌<◌, ◌≡◌, Bool, true, cond, not, ◌&&◌, List, [], ◌∷◌, ◌++◌, leb, eqb, length, take, ⊤, Result, Ok, Err}
use Rattle.cells.specs.Test.{fault}
use Rattle.cells.specs.declared.Fault.{Fault}

-- "Other bytes below 20h, and 7Fh, never stand": a byte that may stand in a line.
unfoldable pub plain : ℕ → Bool
plain b = leb 0x20 b && not (eqb b 0x7f)

-- Bytes of one line.
unfoldable pub plain_line : List ℕ → Bool
plain_line [] = true
plain_line (b ∷ l) = plain b && plain_line l

-- Bytes of lines.
unfoldable pub plain_lines : List (List ℕ) → Bool
plain_lines [] = true
plain_lines (l ∷ ls) = plain_line l && plain_lines ls

-- "Each ended by CR LF, then one byte 1Ah."
unfoldable pub file : List (List ℕ) → List ℕ
file [] = 0x1a ∷ []
file (l ∷ ls) = l ++ 0x0d ∷ 0x0a ∷ file ls

-- "Well framed is one or more such lines (even empty), then 1Ah, at any length."
pub record WellFramed (s : List ℕ) : Type 0 where
  pub lines : List (List ℕ)
  pub some : 1 ≤ length lines
  pub plain : plain_lines lines ≡ true
  pub bytes : s ≡ file lines

-- "21: first byte where no well framed file agrees, or the end": some well framed file has the first k bytes, and none those and
-- the byte after them; or they are all, and no well framed file.
pub record Place (s : List ℕ) (k : ℕ) : Type 0 where
  pub within : k ≤ length s
  pub other : List ℕ
  pub framed : WellFramed other
  pub agrees : take k other ≡ take k s
  pub none : k < length s → (w : List ℕ) → WellFramed w → take (k + 1) w ≡ take (k + 1) s → ⊥
  pub short : k ≡ length s → WellFramed s → ⊥

-- What has been read of a file: 0 is a part of a line, or nothing; 1 ends with the CR of a line; 2 with its LF; 3 is all of a file,
abbrev pub read : ℕ
read = 3

-- and 4 is what no well framed file begins with.
abbrev pub wrong : ℕ
wrong = 4

-- A byte of a line, or the CR at its end.
unfoldable pub in_line : ℕ → ℕ
in_line b = cond (eqb b 0x0d) 1 (cond (plain b) 0 wrong)

-- What has been read with one more byte.
unfoldable pub next : ℕ → ℕ → ℕ
next state b =
    cond (eqb state 0) (in_line b)
    (cond (eqb state 1) (cond (eqb b 0x0a) 2 wrong) (cond (eqb state 2) (cond (eqb b 0x1a) read (in_line b)) wrong))

-- The first byte of what no well framed file begins with, or the end. From offset k on.
unfoldable pub frame_from : ℕ → ℕ → List ℕ → Fault
frame_from state k [] = cond (eqb state read) (fault 0 0) (fault 21 k)
frame_from state k (b ∷ s) = cond (eqb (next state b) wrong) (fault 21 k) (frame_from (next state b) (k + 1) s)

-- The fault of a file's frame: number 0 where it is well framed. `Rattle.line.proofs.Laws` says of both that they are what document 01 says.
unfoldable pub frame_fault : List ℕ → Fault
frame_fault s = frame_from 0 0 s
