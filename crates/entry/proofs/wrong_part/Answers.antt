-- By what the part is.
use borrow.Author.Tests.{eq-eqb, ne_eqb}
use Rattle.laid.specs.Laid.{text_bytes}
use Rattle.entry.specs.Code.Judge.{part_wrong}
use Rattle.entry.proofs.wrong_part.Goals as goal

pub returns-then-kind-eq-NUMBER : goal.returns-then-kind-eq-NUMBER
unfolding part_wrong
returns-then-kind-eq-NUMBER c = rw (eq-eqb _ _ c.if-kind-eq-NUMBER.true) c.wrong_number.ensures

pub returns-then-kind-eq-TEXT : goal.returns-then-kind-eq-TEXT
unfolding part_wrong text_bytes
returns-then-kind-eq-TEXT c = rw (ne_eqb _ _ c.if-kind-eq-NUMBER.false, eq-eqb _ _ c.if-kind-eq-TEXT.true) c.wrong_place.ensures

pub returns : goal.returns
unfolding part_wrong text_bytes
returns c = rw (ne_eqb _ _ c.if-kind-eq-NUMBER.false, ne_eqb _ _ c.if-kind-eq-TEXT.false) c.wrong_place-2.ensures
