-- Document 01, "The file": "Fields part at commas only; a last empty field keeps its comma."
-- Assumes nothing.
use Rattle.std.specs.Prelude.{ℕ, ◌+◌, ◌-◌, Bool, true, cond, not, ◌&&◌, ◌||◌, List, [], ◌∷◌, ◌++◌, leb, ltb, eqb, length, get_or, drop}

-- A byte put before the first field.
unfoldable pub push : ℕ → List (List ℕ) → List (List ℕ)
push b [] = (b ∷ []) ∷ []
push b (f ∷ fs) = (b ∷ f) ∷ fs

-- The fields of a line: an empty line is one empty field.
unfoldable pub split : List ℕ → List (List ℕ)
split [] = [] ∷ []
split (b ∷ l) = cond (eqb b 0x2c) ([] ∷ split l) (push b (split l))

-- The line of fields, commas between them.
unfoldable pub join : List (List ℕ) → List ℕ
join [] = []
join (f ∷ []) = f
join (f ∷ g ∷ fs) = f ++ 0x2c ∷ join (g ∷ fs)

-- A field has no comma.
unfoldable pub no_comma : List ℕ → Bool
no_comma [] = true
no_comma (b ∷ f) = not (eqb b 0x2c) && no_comma f

-- None of the fields has one.
unfoldable pub no_commas : List (List ℕ) → Bool
no_commas [] = true
no_commas (f ∷ fs) = no_comma f && no_commas fs

-- The bytes up to the CR at a line's end: all, where there is none.
unfoldable pub line : List ℕ → List ℕ
line [] = []
line (b ∷ s) = cond (eqb b 0x0d) [] (b ∷ line s)

-- A byte that ends a field: the comma after it, or the CR after the last.
unfoldable pub ends : ℕ → Bool
ends b = eqb b 0x2c || eqb b 0x0d

-- The bytes up to the first of these.
unfoldable pub field : List ℕ → List ℕ
field [] = []
field (b ∷ s) = cond (ends b) [] (b ∷ field s)

-- The offset of the first comma or CR from an offset on; the length, where there is none.
unfoldable pub field_end : List ℕ → ℕ → ℕ
field_end s at = cond (leb at (length s)) (at + length (field (drop at s))) (length s)

-- "Fields part at commas only": the parts of the line at an offset of the file, up to its CR; none outside the file.
unfoldable pub fields_at : List ℕ → ℕ → List (List ℕ)
fields_at s at = cond (leb at (length s)) (split (line (drop at s))) []

-- A comma stands after every field of a line but the last: the last field of a line ends at an offset.
unfoldable pub line_ends : List ℕ → ℕ → Bool
line_ends s at = cond (ltb at (length s)) (not (eqb (get_or s at 0) 0x2c)) true

-- The kth field, counted from 1; empty where there are fewer.
abbrev pub nth : ℕ → List (List ℕ) → List ℕ
nth k fs = get_or fs (k - 1) []
