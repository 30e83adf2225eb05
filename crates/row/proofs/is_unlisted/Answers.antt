-- Nine characters, compared as lists.
use Rattle.std.proofs.Common.{◌∙◌, ap}
use Rattle.cells.specs.Same.{eqs}
use Rattle.cells.specs.Text.{bytes}
use Rattle.row.proofs.Compared.{same_eqs}
use Rattle.row.proofs.is_unlisted.Goals as goal

pub returns : goal.returns
unfolding bytes
returns c = c.eq.ensures ∙ same_eqs c.args.f.now c.as_slice.result.now ∙ ap (eqs c.args.f.now) c.as_slice.ensures
