-- By the answer.
-- Assumes nothing.
use mathlib.Core.Path.{◌∙◌, ap, sym}
use lib.ListN.{length}
use Rattle.day.specs.Day.{day}
use Rattle.course.specs.Calendar.{said}
use Rattle.dose_calendar.specs.Calendar.{calendar_of}
use Rattle.calendar_calls.proofs.Kept.{tells_filled, tells_refused}
use Rattle.std.specs.Prelude.{Result, ⊤}
use Rattle.record.specs.declared.Refusal.{Refusal}
use Rattle.calendar_calls.proofs.yws_calendar.Goals as goal

pub returns-in-Ok : goal.returns-in-Ok
returns-in-Ok c = let r = c.fill in
    let a = c.args in
    let t = tells_filled (calendar_of a.file.now a.rp (day a.year a.month a.day) a.days (length a.doses.now)) a.doses.now _ (ap (λ (x : Result ⊤ Refusal). record { told = said x; output = r.new.out }) (sym c.in-Ok.is) ∙ r.ensures) in
    record { returns = t.returns; refuses = t.refuses; leaves = t.leaves }

pub returns-in-Err : goal.returns-in-Err
returns-in-Err c = let r = c.fill in
    tells_refused _ _ _ _ (ap (λ (a : Result ⊤ Refusal). record { told = said a; output = r.new.out }) (sym c.in-Err.is) ∙ r.ensures) _ _ c.put_refusal.ensures
