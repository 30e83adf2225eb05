-- "A text is that part of the file itself": a text by its place in lent bytes.
-- Assumes nothing.
use Rattle.std.specs.Prelude.{ℕ, cond, List, [], ◌∷◌, leb, length}
use Rattle.std.proofs.Math.Seq.{slice}

-- A field that no rule takes: what can't be written is written so, and then refused by the rule of its field.
abbrev pub no_field : List ℕ
no_field = 0 ∷ []

-- The text at a place of the lent bytes; where they have no such place, `none`.
unfoldable pub text_or : List ℕ → List ℕ → ℕ → ℕ → List ℕ
text_or lent none from to = cond (leb from to) (cond (leb to (length lent)) (slice from to lent) none) none
