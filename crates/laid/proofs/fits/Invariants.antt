-- What is left to fit is the parts from i on.
use Prim.Native.Nat.{◌-◌, ◌≤◌}
use mathlib.Core.Path.{◌≡◌}
use Rattle.laid.specs.Laid.{laid}
use Rattle.laid.proofs.Along.{fits_from}
use Rattle.laid.proofs.fits.Given as goal

abbrev pub invariant-loop-i : goal.invariant-loop-i
invariant-loop-i l =
    (l.i ≤ l.count) × (fits_from l.lent (laid l.kinds l.numbers l.from l.to l.own) (l.count - l.i) l.i l.left ≡ fits_from l.lent (laid l.kinds l.numbers l.from l.to l.own) l.count 0 l.room)
