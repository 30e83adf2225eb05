-- Number by number; each fits its place.
use native.Mathlib.Omega.{arith}
use Rattle.plain.specs.Fits.{none, more}
use Rattle.told.specs.States.{FitsSofar}
use Rattle.told.proofs.States.{as_bit, sofar_back}
use Rattle.told.proofs.put_state.Goals as goal

pub returns : goal.returns
returns c =
    let a = c.args in
    let b = a.c.before in
    let s = b.schedule in
    let fits : FitsSofar a.c =
    record {
      halves = more {n = a.c.last} (omega arith) (more {n = b.rp.0} (omega arith) (more {n = b.drug.0} (omega arith) (more {n = b.supplement.0} (omega arith) none)));
      bytes = more {n = b.month} (omega arith) (more {n = s.letter} (omega arith) (more {n = s.month} (omega arith) (more {n = s.last} (omega arith) none)));
    }
    in
    rw (
      c.from.ensures,
      c.from-2.ensures,
      c.from-3.ensures,
      c.from-4.ensures,
      c.from-5.ensures,
      c.from-6.ensures,
      c.from-7.ensures,
      c.from-8.ensures,
      c.from-9.ensures,
    ) (rw (as_bit s.full), rw (as_bit s.full) (sofar_back fits a.at a.opened))
