-- A line laid from its parts: each a number's digits, a text in lent bytes, or a text in bytes of the line's own.
-- Assumes nothing.
use Rattle.std.specs.Prelude.{ℕ, zero, suc, ◌+◌, min, Bool, cond, List, [], ◌∷◌, ◌++◌, eqb, leb, length, get_or}
use Rattle.std.proofs.lemmas.List.Edits.{sets}
use Rattle.cells.specs.Limits.{file_most}
use Rattle.number.specs.Print.{print_number}
use Rattle.text.specs.Lent.{no_field, text_or}

-- ---- parts
-- Parts in arrays of plain numbers: what each is, its number, where its text begins and ends; and the bytes that the line's own texts are places of.
pub record Laid : Type 0 where
  pub kinds : List ℕ
  pub numbers : List ℕ
  pub from : List ℕ
  pub to : List ℕ
  pub own : List ℕ

abbrev pub laid : List ℕ → List ℕ → List ℕ → List ℕ → List ℕ → Laid
laid kinds numbers from to own = record { kinds = kinds; numbers = numbers; from = from; to = to; own = own }

-- The bytes of a part that is no number: a place of the lent bytes, or of the line's own.
unfoldable pub text_bytes : List ℕ → List ℕ → ℕ → ℕ → ℕ → List ℕ
text_bytes lent own kind from to = cond (eqb kind 1) (text_or lent no_field from to) (text_or own no_field from to)

-- The bytes of a part.
unfoldable pub part_bytes : List ℕ → List ℕ → ℕ → ℕ → ℕ → ℕ → List ℕ
part_bytes lent own kind number from to = cond (eqb kind 0) (print_number number) (text_bytes lent own kind from to)

-- Those of the part with k before it.
abbrev pub part_at : List ℕ → Laid → ℕ → List ℕ
part_at lent p k = part_bytes lent p.own (get_or p.kinds k 0) (get_or p.numbers k 0) (get_or p.from k 0) (get_or p.to k 0)

-- ---- the line
-- The byte after the part with i of `count` before it: a comma, or the CR after the last.
unfoldable pub separator_of : ℕ → ℕ → ℕ
separator_of i count = cond (eqb (i + 1) count) 0x0d 0x2c

-- k parts that have i before them, a byte after each, then the LF.
unfoldable pub line_from : List ℕ → Laid → ℕ → ℕ → List ℕ
line_from lent p zero i = 0x0a ∷ []
line_from lent p (suc k) i = part_at lent p i ++ separator_of i (i + suc k) ∷ line_from lent p k (i + 1)

-- The whole line.
abbrev pub line_of : List ℕ → Laid → ℕ → List ℕ
line_of lent p count = line_from lent p count 0

-- It has room at a place: the place plus the line with CR LF plus the closing 1Ah passes neither the buffer nor a file's limit.
unfoldable pub room_for : ℕ → ℕ → List ℕ → Bool
room_for size at l = leb (at + (length l + 1)) (min size file_most)

-- ---- putting it
-- Where a line ends that was put, and the buffer after it.
pub record Put : Type 0 where
  pub end : ℕ
  pub buffer : List ℕ

-- Nothing put: the end is the place itself, and no byte is another. A line has a byte or more, so the two are told apart.
abbrev pub nothing : List ℕ → ℕ → Put
nothing out at = record { end = at; buffer = out }

-- A line at a place, where it has room.
unfoldable pub put_whole : List ℕ → ℕ → List ℕ → Put
put_whole out at l = cond (room_for (length out) at l) (record { end = at + length l; buffer = sets out at l }) (nothing out at)

-- How many parts a line has at most.
abbrev pub parts_most : ℕ
parts_most = 13

-- A line of parts, where they are no more than that.
unfoldable pub put_parts : List ℕ → ℕ → ℕ → List ℕ → Laid → Put
put_parts out at count lent p = cond (leb count parts_most) (put_whole out at (line_of lent p count)) (nothing out at)
