-- What has been read of a file, as the number that `Frame` says it by.
-- Assumes nothing.
use Rattle.std.specs.Prelude.{ℕ, Option, Some, None}
use Rattle.line.specs.Frame.{wrong}
use Rattle.line.specs.declared.State.{State}
use Rattle.line.specs.declared.State.TheVariants.{Line, Return, Lines, All}

abbrev pub number : State → ℕ
number Line = 0
number Return = 1
number Lines = 2
number All = 3

-- none is what no well framed file begins with
abbrev pub reached : Option State → ℕ
reached (Some state) = number state
reached None = wrong
