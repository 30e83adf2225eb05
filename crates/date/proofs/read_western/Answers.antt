-- The four digits of the year are two numbers of two.
-- Assumes nothing.
use Prim.Native.Nat.{◌+◌, ◌*◌}
use mathlib.Core.Path.{◌∙◌, sym}
use Rattle.date.specs.Date.{date, held}
use Rattle.date.proofs.Style.{read_western_lem}
use Rattle.date.proofs.read_western.Goals as goal

pub returns : goal.returns
returns c =
    let p = c.requires in
    let x = c.from.ensures ∙ c.two.ensures.0 in
    let y = c.from-2.ensures ∙ c.two-2.ensures.0 in
    c.held.ensures ∙
    (λ i. held (date 0 (x i * 100 + y i) (c.two-3.ensures.0 i) (c.two-4.ensures.0 i))) ∙
    sym (read_western_lem c.args.s.now p.0 p.1)
