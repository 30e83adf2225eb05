-- The row as far as it is named, by `Masks.clock`.
use Prim.Native.Nat.{ℕ, ◌+◌, ◌-◌, min}
use mathlib.Core.Path.{◌≡◌, ◌∙◌, ap}
use lib.ListN.{length, take}
use Rattle.cells.specs.Test.{passes}
use Rattle.cells.specs.Cells.{char}
use Rattle.cells.specs.Text.{digit}
use Rattle.cells.specs.Code.Mask.{scan}
use Rattle.usage.specs.Code.Sets as masks
use Rattle.usage.proofs.Masks.{clock}
use Rattle.usage.proofs.clock_fault.Goals as goal

pub returns : goal.returns
returns c =
    let s = c.args.s.now in
    let n : c.from-end.result ≡ min (digit (char s 4)) 8 = c.from-end.ensures ∙ c.min.ensures ∙ ap (λ (v : ℕ). min v 8) c.digit.ensures in
    c.first_fault.ensures ∙ ap passes (ap (λ (k : ℕ). scan (take (k + 1) masks.clock) 2 36 s (length s - 3) 0 3) n ∙ clock s c.told-s c.fits-s)
