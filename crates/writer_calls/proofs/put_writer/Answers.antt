-- The state's numbers, which hold what the records before leave.
use mathlib.Core.Path.{◌≡◌, ◌∙◌, sym, ap}
use mathlib.Core.Bool.{not}
use Rattle.told.specs.States.{sofar_of}
use Rattle.told.proofs.States.{as_bit}
use Rattle.writer_calls.specs.State.{writer_numbers, writer_of}
use Rattle.writer_calls.proofs.State.{writer_back}
use Rattle.writer_calls.proofs.put_writer.Goals as goal

pub returns : goal.returns
returns c =
    let t = c.args.t in
    let e : c.put_state.new.n ≡ writer_numbers t = rw (sym (as_bit (not t.closed))) c.put_state.ensures.0 in
    (e, ap writer_of e ∙ writer_back (ap sofar_of (sym e) ∙ c.put_state.ensures.1))
