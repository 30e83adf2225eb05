-- What the parts of the reader answer.
-- Assumes nothing.
use Rattle.std.specs.Prelude.{ℕ, zero, suc, ◌+◌, ◌-◌, ◌*◌, ◌≡◌, cond, List, eqb, get_or, Err, Ok, Result}
use Rattle.cells.specs.Text.{among, digit}
use Rattle.cells.specs.Test.{Answer, took, refused, first}
use Rattle.cells.specs.Cells.{cells}
use Rattle.cells.specs.declared.Fault.{Fault}
use Rattle.supplement.specs.Amount.{figures, Seen, nothing, lone, whole, point, decimals, end, columns, figures_of, decimals_of, places_of}
use Rattle.supplement.specs.declared.Amount.{Amount}
use Rattle.supplement.specs.declared.Seen
use Rattle.supplement.specs.declared.Seen.TheVariants.{Nothing, Lone, Whole, Point, Decimals, End}

-- how many of the k characters from offset i on stand before the first 0
unfoldable pub day_count : ℕ → ℕ → List ℕ → ℕ
day_count zero i s = 0
day_count (suc k) i s = cond (eqb (get_or s i 0) 48) 0 (suc (day_count k (i + 1) s))

-- what the code has seen, in the rules' words
abbrev pub told : Seen.Seen → Seen
told Nothing = nothing
told Lone = lone
told Whole = whole
told Point = point
told Decimals = decimals
told End = end

-- the number n with the digit c, if c is one
unfoldable pub with_figure : ℕ → ℕ → ℕ
with_figure n c = cond (among figures c) (n * 10 + digit c) n

-- the column just seen is a place after the point, or is not
abbrev pub counted : Seen → ℕ
counted nothing = 0
counted lone = 0
counted whole = 0
counted point = 0
counted decimals = 1
counted end = 0

-- the places after the point in the k columns from offset i on, after what has been seen
abbrev pub places_from : Seen → ℕ → ℕ → List ℕ → ℕ
places_from nothing k i s = places_of k i s
places_from lone k i s = places_of k i s
places_from whole k i s = places_of k i s
places_from point k i s = decimals_of k i s
places_from decimals k i s = decimals_of k i s
places_from end k i s = 0

-- what the columns of an amount read as
abbrev pub amount_of : List ℕ → Amount
amount_of s = record { figures = figures_of 0 6 2 s; places = places_of 6 2 s }

-- The columns from offset i on, after what has been seen, with the number and the places so far, are what is left of an amount.
pub record Left (s : List ℕ) (i : ℕ) (seen : Seen) (n p : ℕ) : Type 0 where
  pub tests : first (cells (8 - i) i (columns seen (8 - i) i s) s) ≡ first (cells 6 2 (columns nothing 6 2 s) s)
  pub figures : figures_of n (8 - i) i s ≡ figures_of 0 6 2 s
  pub places : (first (cells 6 2 (columns nothing 6 2 s) s)).number ≡ 0 → p + places_from seen (8 - i) i s ≡ places_of 6 2 s

-- document 01's number and values of an amount's answer
abbrev pub said_amount : Result Amount Fault → Answer Amount
said_amount (Ok a) = took a
said_amount (Err f) = refused f.number f.place
