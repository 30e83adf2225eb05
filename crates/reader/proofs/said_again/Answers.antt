-- Test by test, as `said_again` has them.
use mathlib.Core.Path.{sym, ap}
use mathlib.Core.Bool.{Bool, cond}
use Rattle.order.specs.Order.{some}
use Rattle.reader.specs.Reader.{said_again}
use Rattle.reader.proofs.said_again.Goals as goal

pub returns-then-number : goal.returns-then-number
unfolding said_again some
returns-then-number c = sym (ap (λ (b : Bool). cond b c.args.number 24) c.if-number.true)

pub returns : goal.returns
unfolding said_again some
returns c = sym (ap (λ (b : Bool). cond b c.args.number 24) c.if-number.false)
