-- The one character of a field.
use Rattle.std.proofs.Common.{length, arith}
use borrow.Author.Tests.{eq-eqb, ne_eqb}
use Rattle.row.specs.Table.{mark}
use Rattle.row.proofs.mark.Goals as goal

pub returns-in-len1 : goal.returns-in-len1
unfolding mark
returns-in-len1 c = rw (eq-eqb (length c.args.f.now) 1 (omega arith))

pub returns-in_default : goal.returns-in_default
unfolding mark
returns-in_default c = rw (ne_eqb (length c.args.f.now) 1 (λ e. omega (arith, e)))

pub returns-in_default-2 : goal.returns-in_default-2
unfolding mark
returns-in_default-2 c = rw (ne_eqb (length c.args.f.now) 1 (λ e. omega (arith, e)))
