-- "V: order 1 to 5; an amount in six columns: digits, then perhaps a point and digits, then N. A whole part longer than one digit does not
-- start with 0. The record keeps the digits and the places after the point, so 1 and 1.0 differ."
-- Assumes nothing.
use Rattle.std.specs.Prelude.{ℕ, zero, suc, ◌+◌, ◌*◌, ◌≤◌, ◌≡◌, true, false, cond, ◌⊎◌, List, [], ◌∷◌, ◌++◌, length, get_or, take, drop, replicate}
use Prim.Native.String.{String}
use Rattle.cells.specs.Text.{among, digit}
use Rattle.cells.specs.Cells.{Cell, set}

-- The digits.
abbrev pub figures : String
figures = "0123456789"

-- one or more digits
abbrev pub Figures : List ℕ → Type 0
Figures s = (1 ≤ length s) × ((i : ℕ) → suc i ≤ length s → among figures (get_or s i 0) ≡ true)

-- An allowed amount, in six columns.
pub record Allowed (s : List ℕ) : Type 0 where
  pub whole : List ℕ
  pub fraction : List ℕ
  pub blanks : ℕ
  pub six : length s ≡ 6
  pub made : s ≡ whole ++ fraction ++ replicate blanks 78
  pub digits : Figures whole
  pub shortest : (length whole ≡ 1) ⊎ (among "0" (get_or whole 0 0) ≡ false)
  pub after : (fraction ≡ []) ⊎ ((get_or fraction 0 0 ≡ 46) × Figures (drop 1 fraction))

-- Some allowed amount agrees with the first k columns. "5 names the first column at which no allowed amount agrees."
pub record Agrees (k : ℕ) (s : List ℕ) : Type 0 where
  pub amount : List ℕ
  pub allowed : Allowed amount
  pub same : take k amount ≡ take k s

-- What may stand in the next column, by what has been seen so far, where `left` columns follow it: a point needs room for a digit.
pub data Seen : Type 0 where
  nothing lone whole point decimals end : Seen

-- By what has been seen and the columns left.
unfoldable pub may : Seen → ℕ → String
may nothing left = "0123456789"
may lone zero = "N"
may lone (suc l) = ".N"
may whole zero = "0123456789N"
may whole (suc l) = "0123456789.N"
may point left = "0123456789"
may decimals left = "0123456789N"
may end left = "N"

-- What has been seen once c stands there, too.
unfoldable pub next : Seen → ℕ → Seen
next nothing c = cond (among "0" c) lone whole
next lone c = cond (among "." c) point end
next whole c = cond (among "." c) point (cond (among "N" c) end whole)
next point c = decimals
next decimals c = cond (among "N" c) end decimals
next end c = end

-- The cells of the k columns from offset i on.
unfoldable pub columns : Seen → ℕ → ℕ → List ℕ → List Cell
columns seen zero i s = []
columns seen (suc k) i s = set (may seen k) ∷ columns (next seen (get_or s i 0)) k (i + 1) s

-- The digits of k columns from offset i on, as a number, after the number n; the places after the point.
unfoldable pub figures_of : ℕ → ℕ → ℕ → List ℕ → ℕ
figures_of n zero i s = n
figures_of n (suc k) i s = figures_of (cond (among figures (get_or s i 0)) (n * 10 + digit (get_or s i 0)) n) k (i + 1) s

-- How many of k columns from offset i on are digits.
unfoldable pub decimals_of : ℕ → ℕ → List ℕ → ℕ
decimals_of zero i s = 0
decimals_of (suc k) i s = cond (among figures (get_or s i 0)) 1 0 + decimals_of k (i + 1) s

-- The digits after the point, 0 where there is none.
unfoldable pub places_of : ℕ → ℕ → List ℕ → ℕ
places_of zero i s = 0
places_of (suc k) i s = cond (among "." (get_or s i 0)) (decimals_of k (i + 1) s) (places_of k (i + 1) s)
