-- A list of date codes as a chain of neighbours, and what is kept of a code against the code itself.
-- Assumes nothing.
use Prim.Native.Nat.{ℕ}
use mathlib.Core.Path.{◌≡◌, refl, sym, ◌∙◌}
use mathlib.Core.Bool.{Bool, true, false, ◌&&◌, and-true}
use mathlib.Core.List.{List, [], ◌∷◌, map}
use Rattle.cells.specs.Text.{among}
use Rattle.days.specs.Run.{code_of, follows, allowed}
use Rattle.days.proofs.Walk.{first_of}
use Rattle.supplement.specs.declared.Supplement.{Supplement}
use Rattle.schedule.specs.Schedule.{dates, date_run}
use Rattle.schedule.specs.Kept.{keep_of, after_date}

-- ---- tests made of tests
-- two tests of one part and two of the other, part by part
regroup : (a b c d : Bool) → (a && b) && (c && d) ≡ (a && c) && (b && d)
regroup true b true d = refl
regroup true true false d = refl
regroup true false false d = refl
regroup false b c d = refl

-- ---- neighbours
-- a code, and its neighbour after it
abbrev pub linked : ℕ → Supplement → Supplement → Bool
linked issue a b = among "D" a.letter && follows issue (code_of a) (code_of b)

module _ (issue : ℕ) (a : Supplement) where
  pub one_date : date_run issue (a ∷ []) ≡ among "D" a.letter
  unfolding date_run dates allowed
  one_date = and-true (among "D" a.letter && true) ∙ and-true (among "D" a.letter)

  pub more_dates : (b : Supplement) (xs : List Supplement) → date_run issue (a ∷ b ∷ xs) ≡ linked issue a b && date_run issue (b ∷ xs)
  unfolding date_run dates allowed
  more_dates b xs = regroup (among "D" a.letter) (dates (b ∷ xs)) (follows issue (code_of a) (code_of b)) (allowed issue (map code_of (b ∷ xs)))

-- ---- what is kept of a code
-- what is kept of a code says which code may stand after it
pub kept_follows : (issue : ℕ) (a b : Supplement) → after_date issue (keep_of a) b.month b.days.d1 ≡ follows issue (code_of a) (code_of b)
unfolding after_date follows
kept_follows issue a b =
    let x = b.days in
    rw (sym (first_of x.d1 (x.d2 ∷ x.d3 ∷ x.d4 ∷ x.d5 ∷ x.d6 ∷ []))) refl
