-- Two bytes of a file, one after the other.
-- Assumes nothing.
use Rattle.std.specs.Prelude.{ℕ, Bool, not, ◌&&◌, ◌||◌, eqb}
use Rattle.std.specs.Bool.{beq}
use Rattle.line.specs.Frame.{plain}

-- b may stand right after a: an LF after a CR and after nothing else, 1Ah after an LF, and nothing after 1Ah.
unfoldable pub may_follow : ℕ → ℕ → Bool
may_follow a b =
    beq (eqb a 0x0d) (eqb b 0x0a) && (plain b || eqb b 0x0d || eqb b 0x0a || (eqb a 0x0a && eqb b 0x1a)) && not (eqb a 0x1a)
