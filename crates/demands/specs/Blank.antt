-- What records hold once every date code is blanked, and the days that are noted for each RP.
-- Assumes nothing.
use Rattle.std.specs.Prelude.{ℕ, Bool, cond, List, [], ◌∷◌, ◌++◌, map, eqb}
use Rattle.cells.specs.Text.{among}
use Rattle.supplement.specs.declared.Supplement.{Supplement}
use Rattle.days.specs.Run.{code_of, set_of}
use Rattle.held.specs.Held.{Value, none, number, amount, text, day, usage, supplement, Held}

-- The date code that a value is: a supplement whose letter is D.
abbrev pub date_in : Value → List Supplement
date_in none = []
date_in (number n) = []
date_in (amount n) = []
date_in (text b) = []
date_in (day t) = []
date_in (usage i) = []
date_in (supplement x) = cond (among "D" x.letter) (x ∷ []) []

-- The date codes among some values, in their order.
abbrev pub dates_in : List Value → List Supplement
dates_in [] = []
dates_in (v ∷ vs) = date_in v ++ dates_in vs

-- ---- "Once every date code is blanked"
-- What is left of a value: that a date code stood here, and nothing of it; or the value as it is.
pub data Shown : Type 0 where
  date_code : Shown
  as_it_is : Value → Shown

-- A value by the date code that it is, where it is one.
abbrev pub shown : List Supplement → Value → Shown
shown [] v = as_it_is v
shown (x ∷ xs) v = date_code

-- A value, blanked where it is a date code.
abbrev pub blank_value : Value → Shown
blank_value v = shown (date_in v) v

-- A record's number, and what is left of its values.
pub record Blanked : Type 0 where
  pub number : ℕ
  pub values : List Shown

-- A record with every date code blanked.
abbrev pub blank : Held → Blanked
blank h = record { number = h.number; values = map blank_value h.values }

-- ---- "The same days for each RP"
-- A record 101 begins an RP.
abbrev pub begins_rp : Held → Bool
begins_rp h = eqb h.number 101

-- The date codes up to where the next RP begins.
unfoldable pub dates_upto : List Held → List Supplement
dates_upto [] = []
dates_upto (h ∷ hs) = cond (begins_rp h) [] (dates_in h.values ++ dates_upto hs)

-- The date codes of each RP, in the file's order.
unfoldable pub dates_noted : List Held → List (List Supplement)
dates_noted [] = []
dates_noted (h ∷ hs) = cond (begins_rp h) ((dates_in h.values ++ dates_upto hs) ∷ dates_noted hs) (dates_noted hs)

-- The days noted for each RP, in the file's order: the thirteen cells, every-month and twelve named months, of the set that its date codes name.
unfoldable pub days_noted : List Held → List (List ℕ)
days_noted hs = map (λ xs. set_of (map code_of xs)) (dates_noted hs)
