-- A digit is 48 to 57; the number of two of them is at most 99.
-- Assumes nothing.
use mathlib.Core.Path.{sym}
use native.Mathlib.Omega.{arith}
use Rattle.date.proofs.Digits.{digits_at, two_value}
use Rattle.date.proofs.two.Goals as goal

pub overflow_sub-result : goal.overflow_sub-result
overflow_sub-result c = (digits_at c.args.s.now c.args.at c.requires.0 c.requires.1).0

pub overflow_mul-result : goal.overflow_mul-result
overflow_mul-result c = omega (arith, digits_at c.args.s.now c.args.at c.requires.0 c.requires.1)

pub overflow_sub-result-2 : goal.overflow_sub-result-2
overflow_sub-result-2 c = (digits_at c.args.s.now c.args.at c.requires.0 c.requires.1).2

pub overflow_add-result-2 : goal.overflow_add-result-2
overflow_add-result-2 c = omega (arith, digits_at c.args.s.now c.args.at c.requires.0 c.requires.1)

pub returns : goal.returns
returns c =
    let d = digits_at c.args.s.now c.args.at c.requires.0 c.requires.1 in
    (sym (two_value c.args.s.now c.args.at c.requires.1), omega arith)
