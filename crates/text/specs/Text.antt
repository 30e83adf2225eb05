-- Document 01, "Text is Shift_JIS".
-- Assumes nothing.
use Rattle.std.specs.Prelude.{ℕ, Bool, true, false, cond, not, ◌&&◌, ◌||◌, List, [], ◌∷◌, leb, eqb, length}

-- A byte from lo to hi.
abbrev pub between : ℕ → ℕ → ℕ → Bool
between lo hi b = leb lo b && leb b hi

-- "Single bytes 20h to 7Eh but the comma, and A1h to DFh."
unfoldable pub single : ℕ → Bool
single b = not (eqb b 0x2c) && (between 0x20 0x7e b || between 0xa1 0xdf b)

-- "Pairs led by 81h to 9Fh or E0h to EFh, second byte 40h to 7Eh or 80h to FCh."
unfoldable pub lead : ℕ → Bool
lead b = between 0x81 0x9f b || between 0xe0 0xef b

-- the second byte of a pair
unfoldable pub second : ℕ → Bool
second b = between 0x40 0x7e b || between 0x80 0xfc b

-- A character: a single byte, a pair, or a lead byte with nothing after it.
pub data Character : Type 0 where
  one : ℕ → Character
  pair : ℕ → ℕ → Character
  half : ℕ → Character

-- "A pair begins only where a character begins": the characters of a list of bytes, from the left.
unfoldable mutual
  pub characters : List ℕ → List Character
  characters [] = []
  characters (b ∷ s) = cond (lead b) (led s b) (one b ∷ characters s)

  -- after the lead byte a
  pub led : List ℕ → ℕ → List Character
  led [] a = half a ∷ []
  led (b ∷ s) a = pair a b ∷ characters s

-- A character that may stand: "badly formed" is any other.
abbrev pub whole : Character → Bool
whole (one b) = single b
whole (pair a b) = second b
whole (half a) = false

-- All of them may stand.
unfoldable pub all_whole : List Character → Bool
all_whole [] = true
all_whole (c ∷ cs) = whole c && all_whole cs

-- "A space, half (20h) or full width (81h 40h)."
abbrev pub space : Character → Bool
space (one b) = eqb b 0x20
space (pair a b) = eqb a 0x81 && eqb b 0x40
space (half a) = false

-- The first character is a space.
unfoldable pub starts : List Character → Bool
starts [] = false
starts (c ∷ cs) = space c

-- The last character is a space.
unfoldable pub ends : List Character → Bool
ends [] = false
ends (c ∷ []) = space c
ends (c ∷ d ∷ cs) = ends (d ∷ cs)

-- "No text starts or ends with a space."
unfoldable pub text : List ℕ → Bool
text s = all_whole (characters s) && (not (starts (characters s)) && not (ends (characters s)))

-- A text of at most so many bytes. "26: badly formed, end space, too long."
unfoldable pub text_upto : ℕ → List ℕ → Bool
text_upto most s = leb (length s) most && text s
