-- Each turn goes one place or one pair on, and leaves the rule's answer as it was; `Scan` has the steps.
-- Assumes nothing.
use Prim.Native.Nat.{◌+◌, ◌<◌}
use mathlib.Core.Path.{◌∙◌, sym, ap}
use mathlib.Core.Bool.{Bool, not}
use native.Mathlib.Omega.{arith}
use lib.ListN.{length, drop}
use Rattle.text.specs.Text.{characters}
use Rattle.text.specs.Code.Scan.{rest}
use Rattle.text.proofs.Scan.{character_end, character_lead, character_single, character_none, second_end, second_pair, second_none}
use Rattle.text.proofs.+at_character_at_second.Goals as goal

pub at_character-returns-then-lead : goal.at_character-returns-then-lead
at_character-returns-then-lead t c =
    let l = c.loop-i in
    c.at_second.ensures
    ∙ sym (character_lead c.args.s.now l.i (omega arith) l.spaced (sym c.lead.ensures ∙ c.if-lead.true))
    ∙ l.invariant.same

pub at_character-returns-else-lead : goal.at_character-returns-else-lead
at_character-returns-else-lead t c =
    let l = c.loop-i in
    c.if-lead.false ∙ sym (character_none c.args.s.now l.i (omega arith) l.spaced (sym c.lead.ensures ∙ c.if-lead.false) (sym c.single.ensures ∙ c.if-not-single.true))
    ∙ l.invariant.same

pub at_character-loop-i-preserved : goal.at_character-loop-i-preserved
at_character-loop-i-preserved t c =
    let l = c.loop-i in
    record {
      from_at = omega (arith, l.invariant.from_at);
      within = omega arith;
      same =
          sym (character_single c.args.s.now l.i (omega arith) l.spaced (sym c.single.ensures ∙ c.if-not-single.false))
          ∙ l.invariant.same;
    }

pub at_character-returns : goal.at_character-returns
at_character-returns t c =
    let l = c.loop-i in
    sym (character_end c.args.s.now l.i l.spaced (omega (arith, l.invariant.within))) ∙ l.invariant.same

pub at_second-returns-then-not-second : goal.at_second-returns-then-not-second
at_second-returns-then-not-second t c =
    let l = c.loop-i in
    sym (second_none c.args.s.now l.i (omega arith) l.first (sym c.second.ensures ∙ c.if-not-second.true)) ∙ l.invariant.same

pub at_second-returns-then-i-s : goal.at_second-returns-then-i-s
at_second-returns-then-i-s t c =
    let l = c.loop-i in
    ap not c.wide_space.ensures
    ∙ sym (character_end c.args.s.now (l.i + 1) _ c.if-i-s.true)
    ∙ sym (second_pair c.args.s.now l.i (omega arith) l.first (sym c.second.ensures ∙ c.if-not-second.false))
    ∙ l.invariant.same

pub at_second-returns-then-not-lead : goal.at_second-returns-then-not-lead
at_second-returns-then-not-lead t c =
    let l = c.loop-i in
    c.at_character.ensures
    ∙ ap (λ (w : Bool). rest w (characters (drop (l.i + 1) c.args.s.now))) c.wide_space-then-not-lead.ensures
    ∙ sym (second_pair c.args.s.now l.i (omega arith) l.first (sym c.second.ensures ∙ c.if-not-second.false))
    ∙ l.invariant.same

pub at_second-loop-i-preserved : goal.at_second-loop-i-preserved
at_second-loop-i-preserved t c =
    let l = c.loop-i in
    let h : l.i + 1 < length c.args.s.now = omega (arith, c.if-i-s.false) in
    record {
      from_at = omega (arith, l.invariant.from_at);
      within = omega (arith, h);
      same =
          sym (character_lead c.args.s.now (l.i + 1) h _ (sym c.lead.ensures ∙ c.if-not-lead.false))
          ∙ sym (second_pair c.args.s.now l.i (omega arith) l.first (sym c.second.ensures ∙ c.if-not-second.false))
          ∙ l.invariant.same;
    }

pub at_second-returns : goal.at_second-returns
at_second-returns t c =
    let l = c.loop-i in
    sym (second_end c.args.s.now l.i l.first (omega (arith, l.invariant.within))) ∙ l.invariant.same
