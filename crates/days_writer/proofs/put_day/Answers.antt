-- By what the next day is: the column is its letter, or 0 where no day is left.
-- Assumes nothing.
use Prim.Native.Nat.{◌+◌}
use mathlib.Core.Path.{◌≡◌, sym, ap, ◌∙◌}
use mathlib.Core.List.{[], ◌∷◌}
use lib.ListN.{set, drop}
use Rattle.days.specs.Code.Good.{column}
use Rattle.days_writer.specs.Code.Mask.{since}
use Rattle.days_writer.proofs.Mask.{since_end}
use native.Mathlib.Omega.{arith}
use Rattle.days_writer.proofs.put_day.Goals as goal

pub returns-then-f-lt32 : goal.returns-then-f-lt32
unfolding column
returns-then-f-lt32 c =
    let a = c.args in
    let f = c.next_day-f in
    let q : since a.mask a.d ≡ f.result ∷ since a.mask (f.result + 1) = sym f.ensures.same ∙ f.ensures.head c.if-f-lt32.true in
    (omega arith, omega arith, sym (ap (drop 1) q), ap (set a.out.now a.at) (c.letter.ensures ∙ sym (ap column q)))

pub returns : goal.returns
unfolding column
returns c =
    let a = c.args in
    let f = c.next_day-f in
    let q : since a.mask a.d ≡ [] = sym f.ensures.same ∙ since_end a.mask f.result c.if-f-lt32.false in
    (omega arith, omega arith, since_end a.mask 32 (omega arith) ∙ sym (ap (drop 1) q), ap (set a.out.now a.at) (sym (ap column q)))
