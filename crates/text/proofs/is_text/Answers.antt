-- By the length, the first character, and the scan of all.
-- Assumes nothing.
use Rattle.std.proofs.Common.{◌∙◌, sym, ap, not, arith}
use Rattle.text.proofs.Scan.{too_long, space_first, by_scan}
use Rattle.text.proofs.is_text.Goals as goal

pub returns-then-most-s : goal.returns-then-most-s
returns-then-most-s c = let a = c.args in sym (too_long a.s.now a.most (omega arith))

pub returns-then-not-starts_space : goal.returns-then-not-starts_space
returns-then-not-starts_space c =
    let a = c.args in
    c.at_character.ensures ∙ sym (by_scan a.s.now a.most (omega arith) (sym c.starts_space.ensures ∙ c.if-not-starts_space.true))

pub returns-else-not-starts_space : goal.returns-else-not-starts_space
returns-else-not-starts_space c =
    let a = c.args in
    ap not c.if-not-starts_space.false ∙ sym (space_first a.s.now a.most (sym c.starts_space.ensures ∙ c.if-not-starts_space.false))
