-- `usage_writer::raw` meets its contract: four characters, then the twelve of `tail` (`Writing.twelve`, `Printed.whole`).
use mathlib.Core.List.{◌∷◌}
use mathlib.Core.Path.{◌≡◌, ◌∙◌, ap}
use Rattle.usage_writer.specs.Print.{tail}
use Rattle.usage_writer.proofs.Printed.{part, whole}
use Rattle.usage_writer.proofs.Writing.{twelve}
use Rattle.usage_writer.proofs.raw.Goals as goal

pub returns : goal.returns
returns c =
    let i = c.args.i in
    let t = c.tail-t in
    let e : part 12 0 t.result ≡ tail i = ap (part 12 0) t.ensures ∙ whole 12 (tail i) (twelve i) in
    λ j. c.letter.ensures j ∷ c.letter-2.ensures j ∷ c.letter-3.ensures j ∷ c.letter-4.ensures j ∷ e j
