-- What the scanners answer.
-- Assumes nothing.
use Rattle.std.specs.Prelude.{Bool, not, ◌&&◌, List, [], ◌∷◌}
use Rattle.text.specs.Text.{Character, whole, space}

-- characters that are whole, the last of them no space; `before` says whether the character before them is one
unfoldable pub rest : Bool → List Character → Bool
rest before [] = not before
rest before (c ∷ cs) = whole c && rest (space c) cs
