-- Era by era.
-- Assumes nothing.
use mathlib.Core.Path.{◌≡◌, sym}
use native.Mathlib.Omega.{arith}
use Rattle.date.specs.Date.{era_adds}
use Rattle.date.proofs.Style.{adds_none}
use Rattle.date.proofs.era_adds.Goals as goal

pub returns-in-1 : goal.returns-in-1
unfolding era_adds
returns-in-1 c = let e : c.args.era ≡ 1 = omega arith in (rw e, omega arith)

pub returns-in-2 : goal.returns-in-2
unfolding era_adds
returns-in-2 c = let e : c.args.era ≡ 2 = omega arith in (rw e, omega arith)

pub returns-in-3 : goal.returns-in-3
unfolding era_adds
returns-in-3 c = let e : c.args.era ≡ 3 = omega arith in (rw e, omega arith)

pub returns-in-4 : goal.returns-in-4
unfolding era_adds
returns-in-4 c = let e : c.args.era ≡ 4 = omega arith in (rw e, omega arith)

pub returns-in-5 : goal.returns-in-5
unfolding era_adds
returns-in-5 c = let e : c.args.era ≡ 5 = omega arith in (rw e, omega arith)

pub returns-in_default : goal.returns-in_default
returns-in_default c =
    (sym (adds_none c.args.era (omega arith) (omega arith) (omega arith) (omega arith) (omega arith)), omega arith)
