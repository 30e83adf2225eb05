-- How the code puts characters after those of a field.
-- Assumes nothing.
use Rattle.std.specs.Prelude.{ℕ, ◌+◌, List, length}
use Rattle.std.proofs.lemmas.List.Edits.{sets}
use Rattle.printed.specs.declared.Piece.{Piece}

-- a field with more characters put after its own
abbrev pub more : Piece → List ℕ → Piece
more p t = record { length = p.length + length t; bytes = sets p.bytes p.length t }
