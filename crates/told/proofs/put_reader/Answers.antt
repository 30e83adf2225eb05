-- The state's numbers, which hold what the records before leave.
use mathlib.Core.Path.{◌∙◌, sym, ap}
use native.Mathlib.Omega.{arith}
use Rattle.plain.specs.Fits.{none, more}
use Rattle.told.specs.States.{sofar_of, reader_of}
use Rattle.told.proofs.States.{reader_back}
use Rattle.told.proofs.put_reader.Goals as goal

pub returns : goal.returns
returns c =
    let t = c.args.t in
    let e = rw c.from.ensures at c.put_state.ensures in
    (e.0, ap reader_of e.0 ∙ reader_back (more {n = t.number} (omega arith) none) (ap sofar_of (sym e.0) ∙ e.1))
