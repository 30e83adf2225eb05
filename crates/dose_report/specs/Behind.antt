-- A line, and a sheet behind it.
-- Assumes nothing.
use Rattle.std.specs.Prelude.{ℕ, cond, List, [], ◌∷◌, eqb}

-- What stands after the first LF; nothing where there is none.
unfoldable pub behind : List ℕ → List ℕ
behind [] = []
behind (b ∷ s) = cond (eqb b 0x0a) s (behind s)
