-- By what the file gives.
-- Assumes nothing.
use Rattle.std.proofs.Common.{rules, Err}
use mathlib.Core.Path.{◌≡◌, ◌∙◌, sym, ap}
use lib.ListN.{length}
use Rattle.day.specs.Day.{day}
use Rattle.course.specs.Calendar.{Calendar, answers}
use Rattle.dose_calendar.proofs.Told.{of_course, of_refusal}
use Rattle.dose_calendar.proofs.fill.Goals as goal

pub returns : goal.returns
returns c = let a = c.args in
    c.fill.ensures
    ∙ ap (λ (k : Calendar). answers k a.out.now) (of_course a.file.now a.rp _ _ _ c.gather.ensures c.in_ok-c.was (day a.year a.month a.day) a.days (length a.out.now))

pub returns-in_err-c : goal.returns-in_err-c
returns-in_err-c c = let a = c.args in
    let e : c.from_residual.result ≡ Err c.in_err-c.field-0.0 = search rules in
    rw e (sym (ap (λ (k : Calendar). answers k a.out.now) (of_refusal a.file.now a.rp _ _ _ c.gather.ensures c.in_err-c.was (day a.year a.month a.day) a.days (length a.out.now))))
