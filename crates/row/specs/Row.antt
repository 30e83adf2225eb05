-- The fields of a record, field by field: what is wrong with the first wrong one, or what each is read as.
-- Assumes nothing.
use Rattle.std.specs.Prelude.{ℕ, ◌+◌, ◌-◌, Bool, cond, ◌&&◌, List, [], ◌∷◌, ◌++◌, eqb, length, replicate}
use Rattle.cells.specs.Test.{fault}
use Rattle.line.specs.Fields.{join}
use Rattle.field.specs.Field.{Context, right, read_field}
use Rattle.field.specs.declared.Rule.{Rule}
use Rattle.field.specs.declared.Field.{Field}
use Rattle.row.specs.Table.{typed, wide, rules, counted}
use Rattle.row.specs.declared.Row.{Row}

-- "25 number of fields."
abbrev pub miscounted : Row
miscounted = record { fault = fault 25 0; field = 0; code = 0; after = 0 }

-- The kth field is wrong.
abbrev pub refused_at : ℕ → Field → Row
refused_at k t = record { fault = t.fault; field = k; code = t.code; after = 0 }

-- No field is wrong.
abbrev pub fine : ℕ → Row
fine after = record { fault = fault 0 0; field = 0; code = 0; after = after }

-- "Field by field": the first wrong field, from the kth on; and else that none is wrong.
unfoldable pub field_by_field : Context → ℕ → List Rule → List (List ℕ) → Row → Row
field_by_field c k [] fs row = row
field_by_field c k (r ∷ rs) [] row = row
field_by_field c k (r ∷ rs) (f ∷ fs) row =
    cond (eqb (read_field c r f).fault.number 0) (field_by_field c (k + 1) rs fs row) (refused_at k (read_field c r f))

-- "25, then field by field": the fields of a record of this number, of which the first begins at `at`, and CR stands after the
-- last.
unfoldable pub read_row : Context → ℕ → ℕ → List (List ℕ) → Row
read_row c n at fs =
    cond (counted n fs) (field_by_field c 1 (rules n fs) fs (fine (at + length (join fs) + 1))) miscounted

-- What each field is read as by its rule: its number, 0 where it has none.
unfoldable pub numbers : List Rule → List (List ℕ) → List ℕ
numbers [] fs = []
numbers (r ∷ rs) [] = []
numbers (r ∷ rs) (f ∷ fs) = (right r f).n ∷ numbers rs fs

-- Its amount, 0 where it has none.
unfoldable pub amounts : List Rule → List (List ℕ) → List ℕ
amounts [] fs = []
amounts (r ∷ rs) [] = []
amounts (r ∷ rs) (f ∷ fs) = (right r f).amount ∷ amounts rs fs

-- Where each field ends, of which the first begins at `at`: a comma stands after each, and CR after the last.
unfoldable pub ends : ℕ → List (List ℕ) → List ℕ
ends at [] = []
ends at (f ∷ fs) = (at + length f) ∷ ends (at + length f + 1) fs

-- A row's cells with nothing in them.
abbrev pub zeros : List ℕ
zeros = replicate wide 0

-- Numbers in a row's cells.
abbrev pub in_cells : List ℕ → List ℕ
in_cells ns = ns ++ replicate (wide - length ns) 0

-- What was read is noted of a typed record with no wrong field; those that are kept are kept as they stand.
abbrev pub noted : ℕ → Row → Bool
noted n w = typed n && eqb w.fault.number 0

-- The cells of the fields' numbers, by what the row is read as, over what was there before: "lent bytes stay" where nothing is noted;
abbrev pub numbers_of : ℕ → Row → List (List ℕ) → List ℕ → List ℕ
numbers_of n w fs before = cond (noted n w) (in_cells (numbers (rules n fs) fs)) before

-- of their amounts;
abbrev pub amounts_of : ℕ → Row → List (List ℕ) → List ℕ → List ℕ
amounts_of n w fs before = cond (noted n w) (in_cells (amounts (rules n fs) fs)) before

-- and of where they end.
abbrev pub ends_of : ℕ → Row → ℕ → List (List ℕ) → List ℕ → List ℕ
ends_of n w at fs before = cond (noted n w) (in_cells (ends at fs)) before
