-- The measure of both scanners is the bytes left. Each turn leaves the rule's answer as it was; `Scan` has the steps.
use Rattle.std.proofs.Common.{length, ◌-◌, ◌≡◌, false, ◌≤◌, drop}
use Rattle.text.specs.Text.{characters, led}
use Rattle.text.specs.Code.Scan.{rest}
use Rattle.text.proofs.+at_character_at_second.Given as goal

abbrev pub decreases-at_character : goal.decreases-at_character
decreases-at_character l = length l.s.now - l.at

abbrev pub decreases-at_second : goal.decreases-at_second
decreases-at_second l = length l.s.now - l.at

abbrev pub invariant-at_character-loop-i : goal.invariant-at_character-loop-i
invariant-at_character-loop-i l = record {
  from_at : l.at ≤ l.i;
  within : l.i ≤ length l.s;
  same : rest l.spaced (characters (drop l.i l.s)) ≡ rest l.space (characters (drop l.at l.s));
}

abbrev pub invariant-at_second-loop-i : goal.invariant-at_second-loop-i
invariant-at_second-loop-i l = record {
  from_at : l.at ≤ l.i;
  within : l.i ≤ length l.s;
  same : rest false (led (drop l.i l.s) l.first) ≡ rest false (led (drop l.at l.s) l.a);
}

abbrev pub decreases-at_second-loop-i : goal.decreases-at_second-loop-i
decreases-at_second-loop-i l = length l.s - l.i
