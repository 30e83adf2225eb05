-- What may stand at each place of a code. Places are counted from 1, as in document 01; an offset is counted from 0.
-- Assumes nothing.
use Rattle.std.specs.Prelude.{ℕ, zero, suc, ◌+◌, ◌-◌, List, [], ◌∷◌, ◌++◌, ltb, leb, get_or}
use Prim.Native.String.{String}
use Rattle.cells.specs.Text.{among, digit}
use Rattle.cells.specs.Test.{Test, test}

-- The character at a place.
abbrev pub char : List ℕ → ℕ → ℕ
char s p = get_or s (p - 1) 0

-- A character of a set; one that is also above the character before it; one that is also a value up to a last one (a month's last day),
-- without and with the character before it.
pub data Cell : Type 0 where
  set : String → Cell
  rising : String → Cell
  upto : ℕ → String → Cell
  rising_upto : ℕ → String → Cell

-- "5 character outside its set", "8 no such day", "9 hour or day not rising": of the character c at place p, after the character b.
-- "At one place 6, 5, 8, 9 in that order."
abbrev pub tests : Cell → ℕ → ℕ → ℕ → List Test
tests (set x) p b c = test 5 p (among x c) ∷ []
tests (rising x) p b c = test 5 p (among x c) ∷ test 9 p (ltb (digit b) (digit c)) ∷ []
tests (upto l x) p b c = test 5 p (among x c) ∷ test 8 p (leb (digit c) l) ∷ []
tests (rising_upto l x) p b c = test 5 p (among x c) ∷ test 8 p (leb (digit c) l) ∷ test 9 p (ltb (digit b) (digit c)) ∷ []

-- The tests of the k characters from offset i on. "Every character not named below is 0": "6 unused character not 0".
unfoldable pub cells : ℕ → ℕ → List Cell → List ℕ → List Test
cells zero i xs s = []
cells (suc k) i [] s = test 6 (i + 1) (among "0" (get_or s i 0)) ∷ cells k (i + 1) [] s
cells (suc k) i (x ∷ xs) s = tests x (i + 1) (get_or s (i - 1) 0) (get_or s i 0) ++ cells k (i + 1) xs s
