-- The first seven characters, compared as lists.
use Rattle.std.proofs.Common.{◌∙◌, ◌∷◌, [], ◌++◌, take}
use Rattle.cells.specs.Text.{bytes}
use Rattle.row.proofs.Compared.{eqs_turned}
use Rattle.reader.specs.Open.{version_line}
use Rattle.reader.proofs.is_version.Goals as goal

pub returns : goal.returns
unfolding version_line bytes
returns c = c.starts_with.ensures.value ∙ eqs_turned (take 7 c.args.s.now) (bytes "JAHIS5" ++ (0x0d ∷ []))
