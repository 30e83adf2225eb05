-- By the number of bytes.
-- Assumes nothing.
use Rattle.std.proofs.Common.{◌∙◌, sym, ap, ◌||◌, Bool, eqb, get_or, arith}
use Rattle.text.proofs.Scan.{none_starts, one_starts, more_starts}
use Rattle.text.proofs.starts_space.Goals as goal

pub returns-in-empty : goal.returns-in-empty
returns-in-empty c = sym (none_starts c.args.s.now (omega arith))

pub returns-in-len1 : goal.returns-in-len1
returns-in-len1 c = sym (one_starts c.args.s.now (omega arith))

pub returns-in-len2-up : goal.returns-in-len2-up
returns-in-len2-up c =
    let s = c.args.s.now in
    ap (λ (b : Bool). eqb (get_or s 0 0) 0x20 || b) c.wide_space.ensures ∙ sym (more_starts s (omega arith))
