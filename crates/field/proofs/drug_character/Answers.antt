-- The ranges are the set.
-- Assumes nothing.
use native.Mathlib.Omega.{arith}
use Rattle.field.proofs.Characters.{drug_set}
use Rattle.field.proofs.drug_character.Goals as goal

pub returns : goal.returns
returns c = simp c.capital.ensures (drug_set c.args.b (omega arith))
