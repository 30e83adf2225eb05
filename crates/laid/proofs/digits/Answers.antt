-- By the number of digits.
use Rattle.std.proofs.Common.{sym, arith}
use Rattle.laid.proofs.Figures.{one_digit, two_digits, three_digits, four_digits, five_digits}
use Rattle.laid.proofs.digits.Goals as goal

pub returns-in-0-to-9 : goal.returns-in-0-to-9
returns-in-0-to-9 c = sym (one_digit c.args.n (omega arith))

pub returns-in-10-to-99 : goal.returns-in-10-to-99
returns-in-10-to-99 c = sym (two_digits c.args.n (omega arith) (omega arith))

pub returns-in-100-to-999 : goal.returns-in-100-to-999
returns-in-100-to-999 c = sym (three_digits c.args.n (omega arith) (omega arith))

pub returns-in-1000-to-9999 : goal.returns-in-1000-to-9999
returns-in-1000-to-9999 c = sym (four_digits c.args.n (omega arith) (omega arith))

pub returns-in_default : goal.returns-in_default
returns-in_default c = sym (five_digits c.args.n (omega arith) (omega arith))
