-- "Codes are tested left to right": the first test that is not passed is the refusal.
-- Assumes nothing.
use Rattle.std.specs.Prelude.{ℕ, Bool, cond, List, [], ◌∷◌, eqb, ⊤, Err, Ok, Result}
use Rattle.cells.specs.declared.Fault.{Fault}

-- A test has one of document 01's numbers, a place, and is passed or not.
pub record Test : Type 0 where
  pub number : ℕ
  pub place : ℕ
  pub passed : Bool

-- A test by its parts.
abbrev pub test : ℕ → ℕ → Bool → Test
test n p b = record { number = n; place = p; passed = b }

-- A number and its place; the number 0 says that nothing is at fault.
abbrev pub fault : ℕ → ℕ → Fault
fault n p = record { number = n; place = p }

-- The first test that is not passed.
unfoldable pub first : List Test → Fault
first [] = fault 0 0
first (t ∷ ts) = cond t.passed (first ts) (fault t.number t.place)

-- What testing answers: nothing, or the fault.
abbrev pub passes : Fault → Result ⊤ Fault
passes f = cond (eqb f.number 0) (Ok tt) (Err f)

-- What a reader says of its input: the value that it reads as, or the refusal's number and place.
pub data Answer (A : Type 0) : Type 0 where
  took : A → Answer A
  refused : ℕ → ℕ → Answer A

-- The value where nothing is at fault, and else the fault.
abbrev pub judge : {A : Type 0} → Fault → A → Answer A
judge f a = cond (eqb f.number 0) (took a) (refused f.number f.place)
