-- By what the part is.
use borrow.Author.Tests.{eq-eqb, ne_eqb}
use Rattle.laid.specs.Laid.{text_bytes, part_bytes}
use Rattle.laid.proofs.width.Goals as goal

pub returns-then-kind-eq-NUMBER : goal.returns-then-kind-eq-NUMBER
unfolding part_bytes
returns-then-kind-eq-NUMBER c = rw (eq-eqb _ _ c.if-kind-eq-NUMBER.true) c.digits.ensures

pub returns-then-kind-eq-TEXT : goal.returns-then-kind-eq-TEXT
unfolding part_bytes text_bytes
returns-then-kind-eq-TEXT c = rw (ne_eqb _ _ c.if-kind-eq-NUMBER.false, eq-eqb _ _ c.if-kind-eq-TEXT.true) c.text_width.ensures

pub returns : goal.returns
unfolding part_bytes text_bytes
returns c = rw (ne_eqb _ _ c.if-kind-eq-NUMBER.false, ne_eqb _ _ c.if-kind-eq-TEXT.false) c.text_width-2.ensures
