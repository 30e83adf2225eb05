-- Below A0h one of the two ranges is left, and from there on the other.
-- Assumes nothing.
use mathlib.Core.Bool.{and-true, and-false, or-false}
use native.Mathlib.Omega.{arith}
use borrow.Author.Tests.{le-leb, lt-leb}
use Rattle.text.specs.Text.{lead}
use Rattle.text.proofs.lead.Goals as goal

pub returns-then-b-lt160 : goal.returns-then-b-lt160
unfolding lead
returns-then-b-lt160 c = let b = c.args.b in simp (le-leb b 0x9f (omega arith), lt-leb 0xe0 b (omega arith), and-true, or-false)

pub returns : goal.returns
unfolding lead
returns c = let b = c.args.b in simp (lt-leb b 0x9f (omega arith), and-false)
