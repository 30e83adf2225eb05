-- By what the reading of the eight characters says.
-- Assumes nothing.
use Prim.Native.Nat.{ℕ, ◌+◌, ◌-◌}
use mathlib.Core.Path.{◌≡◌, ap, subst, ◌∙◌}
use lib.ListN.{take, drop}
use Rattle.cells.specs.Test.{Answer}
use Rattle.supplement.specs.Supplement.{read_supplement}
use Rattle.supplement.specs.declared.Supplement.{Supplement}
use Rattle.days.specs.Code.Walk.{Dated}
use native.Mathlib.Omega.{arith}
use Rattle.days.proofs.code_at.Goals as goal

pub date_in-requires : goal.date_in-requires
date_in-requires c = record { text = _; reads = c.read.ensures }

pub returns : goal.returns
returns c =
    let a = c.args in
    let e : a.at + 8 - a.at ≡ 8 = omega arith in
    subst (λ (x : Answer Supplement). Dated x c.date_in.result)
    (c.read.ensures ∙ ap (λ (n : ℕ). read_supplement (take n (drop a.at a.s.now))) e) c.date_in.ensures
