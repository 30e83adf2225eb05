-- Numbers as a field writes them. "Numbers have no leading zeros."
-- Assumes nothing.
use Rattle.std.specs.Prelude.{ℕ, ◌+◌, ◌-◌, ◌*◌, Bool, true, cond, not, ◌&&◌, ◌||◌, List, [], ◌∷◌, leb, eqb, length, get_or, Err, Ok, Result}
use Rattle.cells.specs.Test.{Answer, took, refused}
use Rattle.cells.specs.declared.Fault.{Fault}

-- "27 number, date, amount, site or drug code": a field that is none, of whichever kind was asked for.
abbrev pub none : {A : Type 0} → Answer A
none = refused 27 0

-- Document 01's number and values of what a field is read as.
abbrev pub said : Result ℕ Fault → Answer ℕ
said (Ok n) = took n
said (Err f) = refused f.number f.place

-- A digit, 0 to 9.
unfoldable pub figure : ℕ → Bool
figure c = leb 48 c && leb c 57

-- All of them are digits.
unfoldable pub figures : List ℕ → Bool
figures [] = true
figures (c ∷ s) = figure c && figures s

-- The value of digits, after the number n.
unfoldable pub value : ℕ → List ℕ → ℕ
value n [] = n
value n (c ∷ s) = value (n * 10 + (c - 48)) s

-- 0, or digits not led by 0.
unfoldable pub shortest : List ℕ → Bool
shortest s = leb 1 (length s) && (figures s && (eqb (length s) 1 || not (eqb (get_or s 0 0) 48)))

-- A field's number in its range.
unfoldable pub read_number : ℕ → ℕ → List ℕ → Answer ℕ
read_number lo hi s = cond (shortest s && (leb lo (value 0 s) && leb (value 0 s) hi)) (took (value 0 s)) none
