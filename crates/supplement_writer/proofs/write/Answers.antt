-- What is written is read back and compared, by `Writing`.
use mathlib.Core.Path.{◌≡◌, ◌∙◌, ap}
use mathlib.Core.Bool.{true}
use Rattle.supplement.specs.Supplement.{read_supplement}
use Rattle.cells.proofs.Same.{itself}
use Rattle.supplement_writer.proofs.Writing.{unwritten}
use Rattle.supplement_writer.proofs.write.Goals as goal

pub returns-in_default : goal.returns-in_default
returns-in_default c =
    unwritten c.args.x c.read.result (c.read.ensures ∙ ap read_supplement c.raw-code.ensures)
    (λ e. let q : c.in-Ok.y ≡ c.args.x = cc (c.in-Ok.is, e) in
    let k : c.eq.result ≡ true = c.eq.ensures ∙ rw q (simp itself) in
    cc (k, c.if-eq.false))

pub returns-in_default-2 : goal.returns-in_default-2
returns-in_default-2 c =
    unwritten c.args.x c.read.result (c.read.ensures ∙ ap read_supplement c.raw-code.ensures)
    (λ e. cc (c.in_default.is, e))
