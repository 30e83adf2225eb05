-- What is left to put is what the reader still hands out.
use Prim.Native.Nat.{◌-◌}
use mathlib.Core.Path.{◌≡◌}
use lib.ListN.{length}
use Rattle.reader.specs.File.{read_file}
use Rattle.rewriter.proofs.Along.{put_from, Puts}
use Rattle.rewriter.proofs.put_all.Given as goal

abbrev pub invariant-loop-r : goal.invariant-loop-r
invariant-loop-r l = (length l.out ≡ length l.initial.out) × Puts l.s l.from l.out l.told.state (put_from l.s (read_file l.s).records l.initial.out l.initial.told.state)

abbrev pub decreases-loop-r : goal.decreases-loop-r
decreases-loop-r l = length l.s - l.from.at
