-- The two ranges are one but for 7Fh, at each of the 256 bytes.
-- Assumes nothing.
use mathlib.Core.Path.{refl}
use mathlib.Core.Bool.{not, ◌&&◌}
use native.Mathlib.Omega.{arith}
use lib.Dec.{leb, eqb}
use Rattle.cells.proofs.Alike.{byte}
use Rattle.text.specs.Text.{second}
use Rattle.text.proofs.second.Goals as goal

pub returns : goal.returns
unfolding second
returns c = byte (λ b. leb 0x40 b && leb b 0xfc && not (eqb b 0x7f)) second refl c.args.b (omega arith)
