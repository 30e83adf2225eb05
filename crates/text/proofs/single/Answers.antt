-- Below 7Fh one of the two ranges is left, and from there on the other.
-- Assumes nothing.
use mathlib.Core.Bool.{and-true, and-false, or-false}
use native.Mathlib.Omega.{arith}
use borrow.Author.Tests.{le-leb, lt-leb, ne_eqb}
use Rattle.text.specs.Text.{single}
use Rattle.text.proofs.single.Goals as goal

pub returns-then-b-lt127 : goal.returns-then-b-lt127
unfolding single
returns-then-b-lt127 c = let b = c.args.b in simp (le-leb b 0x7e (omega arith), lt-leb 0xa1 b (omega arith), and-true, or-false)

pub returns : goal.returns
unfolding single
returns c = let b = c.args.b in simp (ne_eqb b 0x2c (omega arith), lt-leb b 0x7e (omega arith), and-false)
