-- What is read as a D code is good; the rest by the cases of a reading.
-- Assumes nothing.
use Rattle.std.proofs.Common.{refl}
use borrow.Author.Tests.{eq-eqb, ne_eqb}
use Rattle.days.proofs.Walk.{good_read}
use Rattle.days.proofs.date_in.Goals as goal

pub date_of-requires : goal.date_of-requires
date_of-requires c = good_read _ _ c.requires c.in-Ok.is c.if-x-eq68.true

pub returns-then-x-eq68 : goal.returns-then-x-eq68
returns-then-x-eq68 c = rw (c.in-Ok.is, eq-eqb _ _ c.if-x-eq68.true) (record { date = c.date_of.result; is = refl; told = c.date_of.ensures })

pub returns-in-Err : goal.returns-in-Err
returns-in-Err c = rw c.in-Err.is refl

pub returns-else-x-eq68 : goal.returns-else-x-eq68
returns-else-x-eq68 c = rw (c.in-Ok.is, ne_eqb _ _ c.if-x-eq68.false) refl
