-- Sets of characters as masks, and the first fault of a row of them.
-- Assumes nothing.
use Rattle.std.specs.Prelude.{ℕ, zero, suc, ◌+◌, ◌-◌, ◌/◌, ◌%◌, ◌^◌, Bool, false, cond, List, ltb, leb, eqb, length, get_or, ⊤, Err, Ok, Result}
use Rattle.cells.specs.Test.{fault}
use Rattle.cells.specs.declared.Fault.{Fault}

-- 0 to 9, A to Z as 10 to 35, 36 for any other
unfoldable pub value : ℕ → ℕ
value c = cond (ltb c 48) 36 (cond (leb c 57) (c - 48) (cond (ltb c 65) 36 (cond (leb c 90) (c - 55) 36)))

-- bit v of a mask
unfoldable pub has : ℕ → ℕ → Bool
has m v = cond (ltb 36 v) false (eqb (m / 2 ^ v % 2) 1)

-- what is wrong with the value v after the value b, in a cell whose set has it or not
unfoldable pub wrong : Bool → Bool → ℕ → ℕ → ℕ → ℕ
wrong inside rises last b v =
    cond inside (cond (ltb last v) 8 (cond rises (cond (ltb b v) 0 9) 0)) 5

-- 6 for an unused value that is not 0
unfoldable pub unused : ℕ → ℕ
unused v = cond (eqb v 0) 0 6

-- what is wrong with the character at offset i, the jth of a row of sets of which those from `rise` on must rise
unfoldable pub wrong_at : List ℕ → ℕ → ℕ → List ℕ → ℕ → ℕ → ℕ
wrong_at sets rise last s j i =
    cond (ltb j (length sets))
    (wrong (has (get_or sets j 0) (value (get_or s i 0))) (leb rise j) last (value (get_or s (i - 1) 0)) (value (get_or s i 0)))
    (unused (value (get_or s i 0)))

-- the first fault of the k characters from offset i on
unfoldable pub scan : List ℕ → ℕ → ℕ → List ℕ → ℕ → ℕ → ℕ → Fault
scan sets rise last s zero j i = fault 0 0
scan sets rise last s (suc k) j i =
    cond (eqb (wrong_at sets rise last s j i) 0) (scan sets rise last s k (j + 1) (i + 1)) (fault (wrong_at sets rise last s j i) (i + 1))

-- a number of what is wrong, 0 for nothing, as an answer
abbrev pub told : ℕ → Result ⊤ ℕ
told n = cond (eqb n 0) (Ok tt) (Err n)

-- the answer of two groups of tests, one after the other: the first's fault, or else what the second answers
unfoldable pub and_then : Result ⊤ Fault → Result ⊤ Fault → Result ⊤ Fault
and_then (Ok tt) b = b
and_then (Err e) b = Err e
