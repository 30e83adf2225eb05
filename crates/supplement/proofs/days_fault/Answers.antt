-- The masks up to the first 0 are the cells of the days.
use mathlib.Core.Path.{◌∙◌, sym, ap}
use Prim.Native.Nat.{ℕ, ◌-◌, ◌≤◌}
use native.Mathlib.Omega.{arith}
use lib.ListN.{length, take, replicate}
use Rattle.cells.specs.Test.{passes}
use Rattle.cells.specs.Code.Mask.{scan}
use lib.Seq.{length-take-le}
use Rattle.supplement.proofs.Rows.{days, counted_most}
use Rattle.supplement.proofs.days_fault.Goals as goal

pub slice_bounds-sets-end : goal.slice_bounds-sets-end
slice_bounds-sets-end c = omega (arith, counted_most 5 3 c.args.s.now)

pub slice_bounds-first_fault-end : goal.slice_bounds-first_fault-end
slice_bounds-first_fault-end c =
    let h : c.day_count-n.result ≤ 6 = omega (arith, counted_most 5 3 c.args.s.now) in
    sym (length-take-le _ _ h)

pub returns : goal.returns
returns c =
    let s = c.args.s.now in
    c.first_fault.ensures ∙ ap passes (ap (λ (k : ℕ). scan (take k (replicate 6 0xFFFF_FFFE)) 1 c.args.last s (length s - 2) 0 2) c.day_count-n.ensures ∙ days s c.fits-s c.told-s c.args.last)
