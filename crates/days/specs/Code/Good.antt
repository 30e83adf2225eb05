-- A good D code, as every D code that is read is, and its eight characters.
-- Assumes nothing.
use Rattle.std.specs.Prelude.{ℕ, zero, suc, ◌+◌, ◌≤◌, ◌<◌, List, [], ◌∷◌, length, drop}
use Rattle.cells.specs.Text.{letter}
use Rattle.supplement.specs.Supplement.{last_day}
use Rattle.days.specs.Run.{Code}

-- A D code of a month and days.
abbrev pub code : ℕ → List ℕ → Code
code m ds = record { month = m; days = ds }

-- Strictly rising days, from lo on, below hi.
abbrev pub Rising : ℕ → ℕ → List ℕ → Type 0
Rising hi lo [] = Unit
Rising hi lo (d ∷ ds) = (lo ≤ d) × (d < hi) × Rising hi (d + 1) ds

-- One to six days, strictly rising, that exist in the month.
pub record Good (c : Code) : Type 0 where
  pub named : c.month ≤ 12
  pub some : 1 ≤ length c.days
  pub most : length c.days ≤ 6
  pub rises : Rising (last_day c.month + 1) 1 c.days

-- The first of some days in a column, or 0.
unfoldable pub column : List ℕ → ℕ
column [] = 48
column (d ∷ ds) = letter d

-- Days in n columns, then 0s.
unfoldable pub pad : ℕ → List ℕ → List ℕ
pad zero ds = []
pad (suc n) ds = column ds ∷ pad n (drop 1 ds)

-- The eight characters of a D code.
unfoldable pub code_bytes : ℕ → List ℕ → List ℕ
code_bytes m ds = 68 ∷ letter m ∷ pad 6 ds
