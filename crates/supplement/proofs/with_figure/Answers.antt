-- By the range of the character.
use native.Mathlib.Omega.{arith}
use Rattle.supplement.proofs.Columns.{below_figures, above_figures, a_figure}
use Rattle.supplement.proofs.with_figure.Goals as goal

pub returns-in-48-to-57 : goal.returns-in-48-to-57
returns-in-48-to-57 c = rw c.from.ensures (a_figure _ _ c.ranges.c.fits (omega arith) (omega arith))

pub returns-in_default : goal.returns-in_default
returns-in_default c = below_figures _ _ c.ranges.c.fits (omega arith)

pub returns-in_default-2 : goal.returns-in_default-2
returns-in_default-2 c = above_figures _ _ c.ranges.c.fits (omega arith)
