-- By the record.
-- Assumes nothing.
use mathlib.Core.Path.{refl}
use Rattle.dose_calendar.proofs.with_record.Goals as goal

pub returns-in-Issue : goal.returns-in-Issue
returns-in-Issue c = rw c.in-Issue.is (c.after_issue.ensures, refl)

pub returns-in-Rp : goal.returns-in-Rp
returns-in-Rp c = rw c.in-Rp.is (c.after_rp.ensures, refl)

pub returns-in-Usage : goal.returns-in-Usage
returns-in-Usage c = rw c.in-Usage.is (c.after_usage.ensures, refl)

pub returns-in-Supplement : goal.returns-in-Supplement
returns-in-Supplement c = rw c.in-Supplement.is c.after_supplement.ensures
