-- By the record.
use mathlib.Core.Path.{sym, ap, ◌∙◌}
use Rattle.record.specs.Record.{leaves as leaves_of}
use Rattle.record.proofs.leaves.Goals as goal

pub returns-in-Issue : goal.returns-in-Issue
returns-in-Issue c = c.after_issue.ensures ∙ ap (leaves_of c.args.b) (sym c.in-Issue.is)

pub returns-in-Rp : goal.returns-in-Rp
returns-in-Rp c = c.after_rp.ensures ∙ ap (leaves_of c.args.b) (sym c.in-Rp.is)

pub returns-in-Usage : goal.returns-in-Usage
returns-in-Usage c = ap (leaves_of c.args.b) (sym c.in-Usage.is)

pub returns-in-Supplement : goal.returns-in-Supplement
returns-in-Supplement c = c.after_supplement.ensures ∙ ap (leaves_of c.args.b) (sym c.in-Supplement.is)

pub returns-in-Drug : goal.returns-in-Drug
returns-in-Drug c = c.after_drug.ensures ∙ ap (leaves_of c.args.b) (sym c.in-Drug.is)

pub returns-in-Kept : goal.returns-in-Kept
returns-in-Kept c = ap (leaves_of c.args.b) (sym c.in-Kept.is)
