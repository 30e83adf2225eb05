-- The ranges are the set.
-- Assumes nothing.
use native.Mathlib.Omega.{arith}
use Rattle.field.proofs.Characters.{capital_set}
use Rattle.field.proofs.capital.Goals as goal

pub returns : goal.returns
returns c = capital_set c.args.b (omega arith)
