-- Answers as numbers: what is returned, and what is left in a lent array; "a refusal returns only its numbers; lent bytes stay".
-- Assumes nothing.
use Rattle.std.specs.Prelude.{ℕ, cond, List, [], ◌∷◌, eqb}
use Rattle.cells.specs.Test.{Answer, took, refused}
use Rattle.date.specs.Date.{make_western, make_era, make_date}
use Rattle.date.specs.Print.{print_date, text}
use Rattle.date.specs.declared.Date.{Date}

-- The number of an answer: 0, or the refusal's.
abbrev pub number : {A : Type 0} → Answer A → ℕ
number (took a) = 0
number (refused n p) = n

-- Its place: 0 where it was taken.
abbrev pub place : {A : Type 0} → Answer A → ℕ
place (took a) = 0
place (refused n p) = p

-- What was read, as numbers; after a refusal, what was there.
abbrev pub or_before : {A : Type 0} → (A → List ℕ) → Answer A → List ℕ → List ℕ
or_before numbers (took a) before = numbers a
or_before numbers (refused n p) before = before

-- A number that was told, in the same way.
abbrev pub or_count : Answer ℕ → ℕ → ℕ
or_count (took n) before = n
or_count (refused n p) before = before

-- A caller names the style by a number: 1 is western style, 2 era style, any other number none.
unfoldable pub make_styled : ℕ → ℕ → ℕ → ℕ → Answer Date
make_styled y m d style = cond (eqb style 1) (make_western y m d) (cond (eqb style 2) (make_era y m d) (make_date y m d))

-- A date's numbers, as record 51 has them.
abbrev pub date_numbers : Date → List ℕ
date_numbers t = t.era ∷ t.year ∷ t.month ∷ t.day ∷ []

-- Its characters, and 0 bytes after them.
abbrev pub date_text : Date → List ℕ
date_text t = (text (print_date t)).bytes
