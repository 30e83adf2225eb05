-- By the number of bytes.
-- Assumes nothing.
use borrow.Author.Tests.{ne_eqb}
use Rattle.field.proofs.Characters.{site_is}
use Rattle.field.proofs.is_site.Goals as goal

pub returns-then-f-ne3 : goal.returns-then-f-ne3
returns-then-f-ne3 c = simp (ne_eqb _ _ c.if-f-ne3.true)

pub returns : goal.returns
returns c = cc (site_is c.args.f.now c.if-f-ne3.false)
