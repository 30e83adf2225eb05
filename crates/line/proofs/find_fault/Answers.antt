-- The loop leaves the fault of the bytes left, after what has been read, as it was; `Steps` has the steps.
-- Assumes nothing.
use Rattle.std.proofs.Common.{◌≡◌, ℕ, refl, ◌∙◌, sym, ap, arith, [], length}
use Rattle.cells.specs.Test.{fault}
use Rattle.cells.specs.Test.{passes}
use Rattle.line.specs.Frame.{frame_from, frame_fault, wrong}
use Rattle.line.specs.declared.State.{State}
use Rattle.line.specs.declared.State.TheVariants.{Line, Return, Lines, All}
use Rattle.line.specs.Code.States.{number}
use Rattle.line.proofs.Steps.{frame_none, frame_here, frame_more}
use Rattle.line.proofs.find_fault.Goals as goal

begins_a_file : (state : State) → number state ≡ wrong → ⊥
begins_a_file Line h = omega arith
begins_a_file Return h = omega arith
begins_a_file Lines h = omega arith
begins_a_file All h = omega arith

-- what is not all of a file is at fault at its end
at_end : (state : State) (k : ℕ) → (state ≡ All → ⊥) → frame_from (number state) k [] ≡ fault 21 k
unfolding frame_from
at_end Line k h = refl
at_end Return k h = refl
at_end Lines k h = refl
at_end All k h = absurd (h refl)

pub loop-i-init : goal.loop-i-init
unfolding frame_fault
loop-i-init c = refl

pub returns-in_default : goal.returns-in_default
returns-in_default c =
    let l = c.loop-i in
    ap passes (sym (frame_here c.args.s.now l.i c.loop-i-test.true (number l.state) wrong c.in_default.ensures refl) ∙ l.invariant)

pub loop-i-preserved : goal.loop-i-preserved
loop-i-preserved c =
    let l = c.loop-i in
    sym (frame_more c.args.s.now l.i c.loop-i-test.true (number l.state) (number c.in-Some.more) c.in-Some.ensures (begins_a_file c.in-Some.more)) ∙ l.invariant

pub returns-in-All : goal.returns-in-All
unfolding frame_from
returns-in-All c =
    let l = c.loop-i in
    let k = sym (frame_none c.args.s.now l.i (number l.state) (omega arith)) ∙ l.invariant in
    ap passes (rw c.in-All.is at k)

pub returns-in_default-state : goal.returns-in_default-state
returns-in_default-state c =
    let l = c.loop-i in
    let e : length c.args.s.now ≡ l.i = omega arith in
    ap passes
    (ap (fault 21) e ∙ sym (at_end l.state l.i c.in_default-state.not-All) ∙ sym (frame_none c.args.s.now l.i (number l.state) (omega arith)) ∙ l.invariant)
