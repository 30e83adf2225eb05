-- The marks of the day.
-- Assumes nothing.
use native.Mathlib.Omega.{arith}
use Rattle.day.proofs.Laws.{parts, day_31}
use Rattle.course.specs.Kept.{on_mark}
use Rattle.course.proofs.on_mark.Goals as goal

pub wide-requires : goal.wide-requires
wide-requires c = tt

pub place-own-requires : goal.place-own-requires
place-own-requires c = tt

pub bounds-marks-own : goal.bounds-marks-own
bounds-marks-own c = let h = c.requires in omega (arith, c.place-own.ensures, parts _ h, day_31 _ h)

pub in_window-requires : goal.in_window-requires
in_window-requires c = tt

pub returns : goal.returns
unfolding on_mark
returns c = rw (c.wide.ensures, c.place-own.ensures, c.in_window.ensures)
