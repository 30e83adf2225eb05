-- "Amount: 1 to 6 whole digits, up to 5 after the point, shortest form; held in hundred-thousandths."
-- Assumes nothing.
use Rattle.std.specs.Prelude.{ℕ, ◌-◌, Bool, true, false, cond, not, ◌&&◌, ◌||◌, List, [], ◌∷◌, ◌++◌, leb, eqb, length, get_or, replicate}
use Rattle.cells.specs.Test.{Answer, took}
use Rattle.number.specs.Number.{figures, value, shortest, none}

-- What stands before the first point: all, where there is none.
unfoldable pub before : List ℕ → List ℕ
before [] = []
before (c ∷ s) = cond (eqb c 46) [] (c ∷ before s)

-- What stands after it: nothing, where there is none.
unfoldable pub after : List ℕ → List ℕ
after [] = []
after (c ∷ s) = cond (eqb c 46) s (after s)

-- There is a point.
unfoldable pub pointed : List ℕ → Bool
pointed [] = false
pointed (c ∷ s) = eqb c 46 || pointed s

-- One to five digits, the last not 0.
unfoldable pub fraction : List ℕ → Bool
fraction s = leb 1 (length s) && (leb (length s) 5 && (figures s && not (eqb (get_or s (length s - 1) 0) 48)))

-- "1 to 6 whole digits, up to 5 after the point, shortest form."
unfoldable pub amount : List ℕ → Bool
amount s = shortest (before s) && (leb (length (before s)) 6 && cond (pointed s) (fraction (after s)) true)

-- "Held in hundred-thousandths": five digits after the point, 0s where there are fewer.
unfoldable pub hundred_thousandths : List ℕ → ℕ
hundred_thousandths s = value (value 0 (before s)) (after s ++ replicate (5 - length (after s)) 48)

-- A field's amount.
unfoldable pub read_amount : List ℕ → Answer ℕ
read_amount s = cond (amount s) (took (hundred_thousandths s)) none
