-- The loop leaves the first wrong text as it was: that of the texts from there on.
use Prim.Native.Nat.{◌-◌, ◌≤◌}
use mathlib.Core.Path.{◌≡◌}
use lib.ListN.{length, drop}
use Rattle.field.specs.Field.{context}
use Rattle.line.specs.Fields.{split}
use Rattle.entry.specs.Code.Judge.{texts_wrong}
use Rattle.entry.proofs.wrong_text.Given as goal

abbrev pub invariant-loop-b : goal.invariant-loop-b
invariant-loop-b l =
    (l.from ≤ length l.s)
    × (texts_wrong (context l.b) (split (drop l.from l.s)) ≡ texts_wrong (context l.b) (split l.s))

abbrev pub decreases-loop-b : goal.decreases-loop-b
decreases-loop-b l = length l.s - l.from
