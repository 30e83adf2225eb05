-- By the number of bytes.
-- Assumes nothing.
use Rattle.std.proofs.Common.{sym, ap, ◌∙◌, ◌&&◌, ◌-◌, not, eqb, Bool, get_or, length, arith}
use borrow.Author.Tests.{le-leb, lt-leb}
use Rattle.number.specs.Number.{figures}
use Rattle.number.proofs.Whole.{fraction_none, fraction_any}
use Rattle.number.proofs.fraction.Goals as goal

pub returns-in-empty : goal.returns-in-empty
returns-in-empty c = sym (fraction_none c.args.s.now (omega arith))

pub returns-then-s-le5 : goal.returns-then-s-le5
returns-then-s-le5 c =
    let s = c.args.s.now in
    let last = not (eqb (get_or s (length s - 1) 0) 48) in
    let few = ap (λ (b : Bool). b && (figures s && last)) (le-leb (length s) 5 (omega arith)) in
    ap (λ (b : Bool). b && last) c.figures.ensures ∙ sym (fraction_any s (omega arith) ∙ few)

pub returns-else-s-le5 : goal.returns-else-s-le5
returns-else-s-le5 c =
    let s = c.args.s.now in simp (fraction_any s (omega arith), lt-leb (length s) 5 (omega arith))
