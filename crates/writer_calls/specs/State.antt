-- The state of a writer as numbers. The first is where it is, the bytes written so far; the second is 1 where it is open; the others are as in a
-- reader's.
-- Assumes nothing.
use Rattle.std.specs.Prelude.{ℕ, not, List, eqb, get_or}
use Rattle.writer.specs.declared.State.{State as Writer}
use Rattle.plain.specs.Held.{bit}
use Rattle.told.specs.States.{state_numbers, sofar_of}

-- Where it is, and whether it is open.
abbrev pub writer_numbers : Writer → List ℕ
writer_numbers t = state_numbers t.at (bit (not t.closed)) t.sofar

-- Back. Any other second number than 1 is that of a writer that is not open: one that is closed, and a state of zeros, which was never opened.
abbrev pub writer_of : List ℕ → Writer
writer_of n = record { at = get_or n 0 0; closed = not (eqb (get_or n 1 0) 1); sofar = sofar_of n }
