-- The fields of a line walked along the file.
-- Assumes nothing.
use Rattle.std.specs.Prelude.{ℕ, ◌+◌, ◌≡◌, Bool, true, cond, ◌&&◌, List, [], ◌∷◌, eqb, ltb, length, get_or, set}
use Rattle.field.specs.Field.{Context, free, required, forbidden, right, read_field}
use Rattle.field.specs.declared.Rule.{Rule}
use Rattle.row.specs.Table.{wide, no_rule, kept_rule, rules, rules_from}
use Rattle.row.specs.Row.{refused_at, fine, numbers, amounts, ends, in_cells}
use Rattle.row.specs.declared.Row.{Row}

-- Required with a kind, else forbidden.
unfoldable pub need_with : ℕ → ℕ → ℕ
need_with named kind = cond (eqb kind named) required forbidden

-- Whether a drug code may be empty, by the code kind.
unfoldable pub drug_need : ℕ → ℕ
drug_need kind = cond (eqb kind 0x31) forbidden (cond (eqb kind 0x37) free required)

-- Whether a drug's name may be empty, by the code kind and whether the code names no listed drug.
unfoldable pub name_need_of : ℕ → Bool → ℕ
name_need_of kind unlisted = cond unlisted required (cond (eqb kind 0x32) free required)

-- The fields of a typed record from the one with i before it on, which begins at `from`.
unfoldable pub row_from : Context → ℕ → ℕ → List Rule → List (List ℕ) → Row
row_from c i from rs [] = fine from
row_from c i from rs (f ∷ fs) =
    cond (eqb (read_field c (get_or rs i no_rule) f).fault.number 0) (row_from c (i + 1) (from + length f + 1) rs fs)
    (refused_at (i + 1) (read_field c (get_or rs i no_rule) f))

-- Their numbers, put into cells from the one with i before it on.
unfoldable pub numbers_from : ℕ → List Rule → List (List ℕ) → List ℕ → List ℕ
numbers_from i rs [] ns = ns
numbers_from i rs (f ∷ fs) ns = numbers_from (i + 1) rs fs (set ns i (right (get_or rs i no_rule) f).n)

-- Their amounts.
unfoldable pub amounts_from : ℕ → List Rule → List (List ℕ) → List ℕ → List ℕ
amounts_from i rs [] ms = ms
amounts_from i rs (f ∷ fs) ms = amounts_from (i + 1) rs fs (set ms i (right (get_or rs i no_rule) f).amount)

-- Two arrays take what the fields are read as, over what they held before, where none is wrong.
abbrev pub Walked : Row → List Rule → List (List ℕ) → List ℕ → List ℕ → List ℕ → List ℕ → Type 0
Walked w rs fs ns₀ ms₀ ns ms = w.fault.number ≡ 0 → (ns ≡ numbers_from 0 rs fs ns₀) × (ms ≡ amounts_from 0 rs fs ms₀)

-- The three arrays of a typed record, where none is wrong.
abbrev pub Filled : ℕ → ℕ → List (List ℕ) → Row → List ℕ → List ℕ → List ℕ → Type 0
Filled n at fs w ns ms es =
    w.fault.number ≡ 0 → (ns ≡ in_cells (numbers (rules n fs) fs)) × (ms ≡ in_cells (amounts (rules n fs) fs)) × (es ≡ in_cells (ends at fs))

-- The fields of a kept record from the ith on.
unfoldable pub kept_from : Context → ℕ → ℕ → List (List ℕ) → Row
kept_from c i from [] = fine from
kept_from c i from (f ∷ fs) =
    cond (eqb (read_field c kept_rule f).fault.number 0) (kept_from c (i + 1) (from + length f + 1) fs)
    (refused_at i (read_field c kept_rule f))

-- How many fields a record of the table has, whatever its kind and its drug code.
unfoldable pub width_of : ℕ → ℕ
width_of n = length (rules_from n [] [])

-- How many fields a line has, from the one with k before it on: one more than there is room for where they are more.
unfoldable pub cut_count : ℕ → List (List ℕ) → ℕ
cut_count k [] = k
cut_count k (f ∷ fs) = cond (ltb k wide) (cut_count (k + 1) fs) (wide + 1)

-- Where they end, put into a row's cells from the one with k before it on; the first of them begins at `at`.
unfoldable pub cut_ends : ℕ → ℕ → List (List ℕ) → List ℕ → List ℕ
cut_ends k at [] es = es
cut_ends k at (f ∷ fs) es = cond (ltb k wide) (cut_ends (k + 1) (at + length f + 1) fs (set es k (at + length f))) es

-- The fields, of which the first begins at `at`, end at these offsets, from the ith on.
unfoldable pub marks : List ℕ → ℕ → ℕ → List (List ℕ) → Bool
marks es i at [] = true
marks es i at (f ∷ fs) = eqb (get_or es i 0) (at + length f) && marks es (i + 1) (at + length f + 1) fs
