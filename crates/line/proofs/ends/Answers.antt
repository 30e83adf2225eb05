-- A byte above the comma is neither.
-- Assumes nothing.
use mathlib.Core.Path.{refl}
use native.Mathlib.Omega.{arith}
use borrow.Author.Tests.{ne_eqb}
use Rattle.line.specs.Fields.{ends}
use Rattle.line.proofs.ends.Goals as goal

pub returns-then-b-le44 : goal.returns-then-b-le44
unfolding ends
returns-then-b-le44 c = refl

pub returns : goal.returns
unfolding ends
returns c =
    let b = c.args.b in
    rw (ne_eqb b 44 (λ z. omega (arith, z)), ne_eqb b 13 (λ z. omega (arith, z)))
