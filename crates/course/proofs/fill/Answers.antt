-- With the start by its numbers.
-- Assumes nothing.
use mathlib.Core.Path.{◌∙◌, ap}
use lib.ListN.{length}
use Rattle.day.specs.declared.Day.{Day}
use Rattle.course.specs.Calendar.{Calendar, answers}
use Rattle.course.specs.Kept.{calendar_by}
use Rattle.course.proofs.Refusals.{same_start}
use Rattle.course.proofs.fill.Goals as goal

pub start_of-requires : goal.start_of-requires
start_of-requires c = tt

pub tell-requires : goal.tell-requires
tell-requires c = tt

pub returns : goal.returns
returns c = let a = c.args in
    c.tell.ensures
    ∙ ap (λ (k : Calendar). answers k a.out.now)
    (ap (λ (t : Day). calendar_by a.c a.marks.now t a.n (length a.out.now)) c.start_of.ensures
    ∙ same_start a.c a.marks.now a.year a.month a.day a.n (length a.out.now))
