-- By the number of bytes.
-- Assumes nothing.
use Rattle.std.proofs.Common.{sym, ap, ◌∙◌, ◌&&◌, not, eqb, Bool, get_or, arith}
use Rattle.number.proofs.Whole.{shortest_none, shortest_one, shortest_more}
use Rattle.number.proofs.shortest.Goals as goal

pub returns-in-empty : goal.returns-in-empty
returns-in-empty c = sym (shortest_none c.args.s.now (omega arith))

pub returns-in-len1 : goal.returns-in-len1
returns-in-len1 c = c.figures.ensures ∙ sym (shortest_one c.args.s.now (omega arith))

pub returns-in-len1-up : goal.returns-in-len1-up
returns-in-len1-up c =
    ap (λ (b : Bool). not (eqb (get_or c.args.s.now 0 0) 48) && b) c.figures-in-len1-up.ensures ∙ sym (shortest_more c.args.s.now (omega arith))
