-- What a number of a caller's array is held as, and what a call leaves in an array.
-- Assumes nothing.
use Rattle.std.specs.Prelude.{ℕ, ◌-◌, min, Bool, not, cond, List, ◌++◌, eqb, length, replicate}

-- A number too large for its place is held as the largest that the place has room for, which is in no field's range and in no code.
abbrev pub byte : ℕ → ℕ
byte n = min n 255

-- In sixteen bits.
abbrev pub half : ℕ → ℕ
half n = min n 65535

-- In thirty-two bits.
abbrev pub word : ℕ → ℕ
word n = min n 4294967295

-- Yes or no: 0 is no.
abbrev pub flag : ℕ → Bool
flag n = not (eqb n 0)

-- As a number.
abbrev pub bit : Bool → ℕ
bit b = cond b 1 0

-- Numbers, and 0s after them up to a width.
abbrev pub filled : ℕ → List ℕ → List ℕ
filled width s = s ++ replicate (width - length s) 0

-- What a call leaves that returns a number: after a refusal, what was there.
unfoldable pub unless0 : ℕ → List ℕ → List ℕ → List ℕ
unless0 number after before = cond (eqb number 0) after before
