-- The tests are the rule.
-- Assumes nothing.
use mathlib.Core.Path.{refl}
use borrow.Author.Tests.{lt-leb, le-leb}
use Rattle.course.proofs.first.Goals as goal

pub returns-then-not-begins : goal.returns-then-not-begins
returns-then-not-begins c = rw (c.if-not-begins.true) refl

pub returns-then-not-valid : goal.returns-then-not-valid
returns-then-not-valid c = rw (c.if-not-begins.false, c.if-not-valid.true) refl

pub returns-then-not-fixed : goal.returns-then-not-fixed
returns-then-not-fixed c = let a = c.args in rw (c.if-not-begins.false, c.if-not-valid.false, c.if-not-fixed.true) refl

pub returns-then-room-n : goal.returns-then-room-n
returns-then-room-n c = let a = c.args in rw (c.if-not-begins.false, c.if-not-valid.false, c.if-not-fixed.false, lt-leb _ _ c.if-room-n.true) refl

pub returns : goal.returns
returns c = let a = c.args in rw (c.if-not-begins.false, c.if-not-valid.false, c.if-not-fixed.false, le-leb _ _ c.if-room-n.false) refl
