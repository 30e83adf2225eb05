-- Characters and sets of characters. A set stands in quotes, as document 01 writes it; a character is its byte.
-- Assumes nothing.
use Rattle.std.specs.Prelude.{ℕ, zero, suc, ◌+◌, Bool, true, false, cond, List, [], ◌∷◌, ltb, eqb}
use Prim.Native.Char.{code}
use Prim.Native.String.{String, [] as nil, ◌∷◌ as cons}

-- A character stands in a text.
unfoldable pub among : String → ℕ → Bool
among nil c = false
among (cons x t) c = cond (eqb c (code x)) true (among t c)

-- Its place there, counted from 0; the text's length where it does not stand there.
unfoldable pub index : String → ℕ → ℕ
index nil c = 0
index (cons x t) c = cond (eqb c (code x)) 0 (suc (index t c))

-- The character at such a place; 0, which is no character of a code, where there is none.
unfoldable pub at : String → ℕ → ℕ
at nil k = 0
at (cons x t) zero = code x
at (cons x t) (suc k) = at t k

-- A text's bytes.
unfoldable pub bytes : String → List ℕ
bytes nil = []
bytes (cons x t) = code x ∷ bytes t

-- "A value 1 to 31 is written 1 to 9, A to V; up to 35, on to Z." 0 is written 0; 36 stands for any other character.
abbrev pub digits : String
digits = "0123456789ABCDEFGHIJKLMNOPQRSTUVWXYZ"

-- The value of a character.
unfoldable pub digit : ℕ → ℕ
digit c = index digits c

-- The character of a value: "1 to 9, A to V; up to 35, on to Z"; 0, which is no character of a code, where there is none.
unfoldable pub letter : ℕ → ℕ
letter v = cond (ltb v 10) (48 + v) (cond (ltb v 36) (55 + v) 0)
