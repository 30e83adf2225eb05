-- The row of kind 2, by `Masks.every`.
use mathlib.Core.Path.{◌∙◌, ap}
use Rattle.cells.specs.Test.{passes}
use Rattle.usage.proofs.Masks.{every}
use Rattle.usage.proofs.every_fault.Goals as goal

pub returns : goal.returns
returns c = c.first_fault.ensures ∙ ap passes (every c.args.s.now c.told-s c.fits-s)
