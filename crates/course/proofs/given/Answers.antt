-- By the rule.
-- Assumes nothing.
use Rattle.course.specs.Kept.{given_by}
use Rattle.course.proofs.given.Goals as goal

pub in_turn-requires : goal.in_turn-requires
in_turn-requires c = tt

pub in_week-requires : goal.in_week-requires
in_week-requires c = tt

pub returns-in-Every : goal.returns-in-Every
unfolding given_by
returns-in-Every c = rw c.in-Every.is

pub returns-in-Turns : goal.returns-in-Turns
unfolding given_by
returns-in-Turns c = rw c.in-Turns.is c.in_turn.ensures

pub returns-in-Weekly : goal.returns-in-Weekly
unfolding given_by
returns-in-Weekly c = rw (c.in-Weekly.is, ← c.requires.1) c.in_week.ensures

pub returns-in-Dates : goal.returns-in-Dates
unfolding given_by
returns-in-Dates c = rw c.in-Dates.is c.on_mark.ensures

pub returns-in-Counted : goal.returns-in-Counted
unfolding given_by
returns-in-Counted c = rw c.in-Counted.is
