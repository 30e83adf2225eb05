-- The days of a mask as a list, relative to a start day: bit 0 is that day.
-- Assumes nothing.
use Rattle.std.specs.Prelude.{ℕ, zero, suc, ◌+◌, ◌-◌, ◌/◌, ◌%◌, ◌^◌, ◌≤◌, ◌<◌, ◌≡◌, Bool, true, false, List, [], ◌∷◌, eqb}

-- The list without d, or with it.
abbrev pub keep : Bool → ℕ → List ℕ → List ℕ
keep true d ds = ds
keep false d ds = d ∷ ds

-- The days of a mask among the next n from d on, where bit 0 is day d.
unfoldable pub days : ℕ → ℕ → ℕ → List ℕ
days zero d m = []
days (suc n) d m = keep (eqb (m % 2) 0) d (days n (d + 1) (m / 2))

-- The days of a mask from day d on.
unfoldable pub since : ℕ → ℕ → List ℕ
since m d = days (32 - d) d (m / 2 ^ (d - 1))

-- r is the first day of a mask from d on, or 32.
pub record First (m d r : ℕ) : Type 0 where
  pub reach : d ≤ r
  pub most : r ≤ 32
  pub same : since m r ≡ since m d
  pub head : r < 32 → since m r ≡ r ∷ since m (r + 1)
