-- How a record is written: the only eight characters that can read as it (`Rattle.supplement_writer.proofs.Laws.back`); and when two records are one.
-- Assumes nothing.
use Rattle.std.specs.Prelude.{ℕ, zero, suc, ◌+◌, ◌-◌, ◌/◌, ◌%◌, Bool, false, cond, ◌&&◌, List, [], ◌∷◌, ltb, leb, eqb}
use Rattle.cells.specs.Test.{Answer, took, refused}
use Rattle.cells.specs.Text.{letter}
use Rattle.cells.specs.Same.{eqs}
use Rattle.supplement.specs.declared.Week.{Week}
use Rattle.supplement.specs.declared.Days.{Days}
use Rattle.supplement.specs.declared.Supplement.{Supplement}

-- "I: days on, days off."
abbrev pub raw_interval : Supplement → List ℕ
raw_interval x = x.letter ∷ letter x.on ∷ letter x.off ∷ 48 ∷ 48 ∷ 48 ∷ 48 ∷ 48 ∷ []

-- "W: seven of 0 or 1, Sunday first."
abbrev pub raw_week : ℕ → Week → List ℕ
raw_week l w =
    l ∷ letter w.sunday ∷ letter w.monday ∷ letter w.tuesday ∷ letter w.wednesday ∷ letter w.thursday ∷ letter w.friday ∷
    letter w.saturday ∷ []

-- "D: month; then one to six days, then 0s."
abbrev pub raw_date : ℕ → ℕ → Days → List ℕ
raw_date l m d =
    l ∷ letter m ∷ letter d.d1 ∷ letter d.d2 ∷ letter d.d3 ∷ letter d.d4 ∷ letter d.d5 ∷ letter d.d6 ∷ []

-- "C: Y, M or W; a count."
abbrev pub raw_count : Supplement → List ℕ
raw_count x = x.letter ∷ x.period ∷ letter x.count ∷ 48 ∷ 48 ∷ 48 ∷ 48 ∷ 48 ∷ []

-- How many digits a number has; k + 1 stands for more than k.
unfoldable pub width : ℕ → ℕ → ℕ
width zero n = 1
width (suc k) n = cond (ltb n 10) 1 (suc (width k (n / 10)))

-- How many of w digits stand before the point, where p stand after it: at least one does.
unfoldable pub whole : ℕ → ℕ → ℕ
whole w p = cond (leb w p) 1 (w - p)

-- The digit that stands k places before a number's last one.
unfoldable pub figure_at : ℕ → ℕ → ℕ
figure_at n zero = 48 + n % 10
figure_at n (suc k) = figure_at (n / 10) k

-- "Digits, then perhaps a point and digits, then N": the jth column, with w digits before the point and p after it.
unfoldable pub column : ℕ → ℕ → ℕ → ℕ → ℕ
column n w p j =
    cond (ltb j w) (figure_at n (w + p - 1 - j)) (cond (eqb p 0) 78 (cond (eqb j w) 46 (cond (leb j (w + p)) (figure_at n (w + p - j)) 78)))

-- "Six columns"; what has more is cut, and then reads as no such amount.
abbrev pub columns_of : ℕ → ℕ → ℕ → List ℕ
columns_of n w p = column n w p 0 ∷ column n w p 1 ∷ column n w p 2 ∷ column n w p 3 ∷ column n w p 4 ∷ column n w p 5 ∷ []

-- "V: order; an amount in six columns."
abbrev pub raw_amount : Supplement → List ℕ
raw_amount x = x.letter ∷ letter x.order ∷ columns_of x.figures (whole (width 6 x.figures) x.places) x.places

-- The eight characters, by the letter; what has another letter is written like V, and then reads as no such record.
unfoldable pub raw : Supplement → List ℕ
raw x =
    cond (eqb x.letter 73) (raw_interval x)
    (cond (eqb x.letter 87) (raw_week x.letter x.week)
    (cond (eqb x.letter 68) (raw_date x.letter x.month x.days)
    (cond (eqb x.letter 67) (raw_count x)
    (raw_amount x))))

-- The numbers of a record itself,
abbrev pub of_head : Supplement → List ℕ
of_head x = x.letter ∷ x.on ∷ x.off ∷ x.month ∷ x.period ∷ x.count ∷ x.order ∷ x.figures ∷ x.places ∷ []

-- those of its week,
abbrev pub of_week : Week → List ℕ
of_week w = w.sunday ∷ w.monday ∷ w.tuesday ∷ w.wednesday ∷ w.thursday ∷ w.friday ∷ w.saturday ∷ []

-- and those of its days.
abbrev pub of_days : Days → List ℕ
of_days d = d.d1 ∷ d.d2 ∷ d.d3 ∷ d.d4 ∷ d.d5 ∷ d.d6 ∷ []

-- Two records are the same, number by number.
abbrev pub same : Supplement → Supplement → Bool
same a b = eqs (of_head a) (of_head b) && (eqs (of_week a.week) (of_week b.week) && eqs (of_days a.days) (of_days b.days))

-- A code reads as the record, or does not.
abbrev pub agrees : Answer Supplement → Supplement → Bool
agrees (took y) x = same y x
agrees (refused n p) x = false
