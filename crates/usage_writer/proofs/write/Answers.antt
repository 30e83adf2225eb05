-- What is written is read back and compared, by `Writing`.
use Prim.Native.Nat.{ℕ}
use mathlib.Core.Path.{◌≡◌, ◌∙◌, sym, ap, subst}
use mathlib.Core.Bool.{true}
use mathlib.Core.List.{List}
use Rattle.std.specs.Prelude.{Ok}
use Rattle.usage.specs.Usage.{read_usage}
use borrow.Author.Rules.{rules}
use Rattle.cells.proofs.Same.{itself}
use Rattle.usage_writer.specs.Writes.{WritesUsage}
use Rattle.usage_writer.proofs.Writing.{written, unwritten}
use Rattle.usage_writer.proofs.write.Goals as goal

pub returns-in_default : goal.returns-in_default
returns-in_default c =
    unwritten c.args.i c.read.result (c.read.ensures ∙ ap read_usage c.raw-code.ensures)
    (λ e. let q : c.in-Ok.j ≡ c.args.i = cc (c.in-Ok.is, e) in
    let k : c.eq.result ≡ true = c.eq.ensures ∙ rw q (simp itself) in
    cc (k, c.if-eq.false))

pub returns-in_default-2 : goal.returns-in_default-2
returns-in_default-2 c =
    unwritten c.args.i c.read.result (c.read.ensures ∙ ap read_usage c.raw-code.ensures)
    (λ e. cc (c.in_default.is, e))

pub returns-in-Ok : goal.returns-in-Ok
returns-in-Ok c =
    let q : c.in-Ok.j ≡ c.args.i = search rules in
    let w = written c.args.i c.read.result (c.read.ensures ∙ ap read_usage c.raw-code.ensures) c.in-Ok.j c.in-Ok.is q in
    subst (λ (code : List ℕ). WritesUsage c.args.i (Ok code)) (sym c.raw-code.ensures) w
