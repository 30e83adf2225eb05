-- The sheet is read from its opening on.
-- Assumes nothing.
use mathlib.Core.Path.{ap, subst}
use Prim.Native.Nat.{ℕ}
use mathlib.Core.List.{List}
use Rattle.reader.specs.Reader.{ending_of}
use Rattle.sheet.specs.Walk.{Ends, how_it_ends}
use Rattle.sheet.specs.declared.Sheet.{Sheet}
use Rattle.sheet.proofs.Laws.{walked}
use Rattle.sheet.proofs.walk.Goals as goal

pub returns : goal.returns
returns c =
    walked c.args.file.now _ (subst (λ (x : Sheet). Ends x.file.now (ending_of (how_it_ends c.last.result)) x.state) c.open.ensures c.last.ensures)
