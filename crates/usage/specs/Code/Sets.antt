-- The rows of characters, the sets that depend on another character, and table 8, as masks: bit v for the value v.
-- `Rattle.usage.proofs.Masks` and `Rattle.usage.proofs.Table` say that they are what `Usage` says.
-- Assumes nothing.
use Rattle.std.specs.Prelude.{ℕ, Bool, cond, ◌&&◌, List, [], ◌∷◌}
use Rattle.std.specs.List.{list_any}
use Prim.Native.String.{String}
use Rattle.cells.specs.Text.{among}
use Rattle.cells.specs.Code.Mask.{value, has}
use Rattle.usage.specs.declared.Line.{Line}

-- the row of kind 1, from the 4th character on
abbrev pub meals : List ℕ
meals = 0b111110 ∷ 0b11 ∷ 0b1111111 ∷ 0b1111111 ∷ 0b1111111 ∷ 0b1000000001 ∷ 0x2000001 ∷ []

-- the row of kind 2
abbrev pub every : List ℕ
every = 0b101011100 ∷ 0x3FFFFFC01 ∷ []

-- the row of kind 3, with as many hours as a code can have
abbrev pub clock : List ℕ
clock =
    0b111111110 ∷ 0x3FFFFFC00 ∷ 0x3FFFFFC00 ∷ 0x3FFFFFC00 ∷ 0x3FFFFFC00 ∷ 0x3FFFFFC00 ∷ 0x3FFFFFC00 ∷ 0x3FFFFFC00 ∷ 0x3FFFFFC00 ∷ []

-- the row of kind 5, from the 8th character on
abbrev pub limits : List ℕ
limits = 0b1000101111111 ∷ 0b1011111111111 ∷ []

-- the row of kind 6
abbrev pub outside : List ℕ
outside = 0b111110 ∷ 0b11 ∷ 0b11000000001 ∷ 0b1000000001 ∷ 0b11000000001 ∷ 0b1000000001 ∷ 0x3FFFFFC01 ∷ []

-- the details of a class
unfoldable pub details : ℕ → ℕ
details class = cond (among "1" class) 0b1111 0x7EFBFC00

-- the timing kinds of a class and a detail
unfoldable pub kinds : ℕ → ℕ → ℕ
kinds class detail = cond (among "1" class) (cond (among "3" detail) 0b10101110 0b101110) 0b11100000

-- the second characters of the pairs of kind 7, by the first
abbrev pub seconds : ℕ → String
seconds c =
    cond (among "1" c) "02N" (cond (among "2" c) "03" (cond (among "3" c) "0A4" (cond (among "4" c) "0A5" (cond (among "6" c) "0A" ""))))

-- the same as a mask
unfoldable pub pairs : ℕ → ℕ
pairs c =
    cond (among "1" c) 0x800005
    (cond (among "2" c) 0b1001 (cond (among "3" c) 0b10000010001 (cond (among "4" c) 0b10000100001 (cond (among "6" c) 0b10000000001 0))))

-- a line of table 8
abbrev pub line : ℕ → ℕ → ℕ → Line
line a b c = record { 0 = a; 1 = b; 2 = c }

-- table 8 by lines: what may stand 5th, 6th and 7th
unfoldable pub lines : List Line
lines =
    line 0b10 0b11111110 1 ∷
    line 0b100 0b111110 1 ∷
    line 0b10000 0b1111111110 1 ∷
    line 0b100000 0b1000 1 ∷
    line 0b1000000 0b11111110 1 ∷
    line 0b10000000 0b100 1 ∷
    line 0b100000000 0b110 1 ∷
    line 0b1000000000 0b110 1 ∷
    line 0b100000000000 0b11111110 1 ∷
    line 0x100000000 0b110 1 ∷
    line 0b1000 0b110 0b11110101 ∷
    line 0b100000 0b110 0b11110101 ∷
    line 0b10000000 0b10 0b11110101 ∷
    line 0b10000000000 0b1111111110 0b11110101 ∷ []

-- three characters stand in a row of a line
abbrev pub in_line : Line → ℕ → ℕ → ℕ → Bool
in_line l a b c = has l.0 (value a) && (has l.1 (value b) && has l.2 (value c))

-- three characters stand in a row of any line
abbrev pub in_lines : ℕ → ℕ → ℕ → Bool
in_lines a b c = list_any (λ l. in_line l a b c) lines
