-- The loop leaves the test of the bytes left as it was; `Characters` has the steps.
-- Assumes nothing.
use mathlib.Core.Path.{◌∙◌, sym}
use borrow.Author.Rules.{rules}
use Rattle.field.proofs.Characters.{each_end, each_more, each_stop}
use Rattle.field.proofs.is_drug_code.Goals as goal

pub loop-i-preserved : goal.loop-i-preserved
loop-i-preserved c =
    let l = c.loop-i in
    sym (each_more _ c.args.f.now l.i (search rules) (sym c.drug_character.ensures ∙ c.if-drug_character.true)) ∙ l.invariant

pub returns-else-drug_character : goal.returns-else-drug_character
returns-else-drug_character c =
    let l = c.loop-i in
    sym (each_stop _ c.args.f.now l.i (search rules) (sym c.drug_character.ensures ∙ c.if-drug_character.false)) ∙ l.invariant

pub returns : goal.returns
returns c = let l = c.loop-i in sym (each_end _ c.args.f.now l.i (search rules)) ∙ l.invariant
