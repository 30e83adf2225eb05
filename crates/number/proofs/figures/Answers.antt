-- Std's test of a digit is the rule.
-- Assumes nothing.
use borrow.Author.Rules.{rules}
use Rattle.std.proofs.Common.{All, ◌↔◌, IsTrue}
use Rattle.std.specs.Char.{is_ascii_digit}
use Rattle.number.proofs.Steps.{all_figures}
use Rattle.number.proofs.figures.Goals as goal

pub returns : goal.returns
returns c =
    let h : IsTrue c.all.result ↔ All (λ c. IsTrue (is_ascii_digit c)) c.args.s.now = search rules in
    all_figures c.args.s.now c.all.result h
