-- The era is the first digit, and not 0.
-- Assumes nothing.
use Prim.Native.Nat.{◌+◌, ◌-◌}
use Rattle.date.specs.Date.{date, held}
use mathlib.Core.Path.{◌∙◌, sym}
use native.Mathlib.Omega.{arith}
use lib.ListN.{get_or}
use Rattle.date.proofs.Digits.{digit_at}
use Rattle.date.proofs.Style.{read_zero, read_era_lem}
use Rattle.date.proofs.read_era.Goals as goal

pub overflow_sub-era : goal.overflow_sub-era
overflow_sub-era c = let p = c.requires in (digit_at c.args.s.now 0 p.0 (omega arith)).0

pub returns-then-era-eq0 : goal.returns-then-era-eq0
returns-then-era-eq0 c =
    let p = c.requires in
    sym (read_zero c.args.s.now p.0 p.1 c.if-era-eq0.true)

pub returns : goal.returns
returns c =
    let p = c.requires in
    let s = c.args.s.now in
    let y = c.from.ensures ∙ c.two.ensures.0 in
    c.held.ensures ∙
    (λ i. held (date (get_or s 0 0 - 48) (c.era_adds.ensures.0 i + y i) (c.two-2.ensures.0 i) (c.two-3.ensures.0 i))) ∙
    sym (read_era_lem s p.0 p.1 c.if-era-eq0.false)
