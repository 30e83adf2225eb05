-- What is left of the file falls with each record.
use Prim.Native.Nat.{◌<◌}
use mathlib.Core.Path.{◌≡◌, ◌∙◌, sym, ap}
use native.Mathlib.Omega.{arith}
use lib.ListN.{length}
use Rattle.std.specs.Prelude.{Option, Ok}
use Rattle.record.specs.declared.Record.{Record}
use Rattle.reader.specs.Reader.{next_record}
use Rattle.reader.specs.Said.{Turn, said_next}
use Rattle.reader.proofs.Laws.{moves, was_inside}
use Rattle.sheets.proofs.codes.Again.add_sheet.Goals as goal

pub loop-r-smaller : goal.loop-r-smaller
loop-r-smaller g c =
    let s = c.args.s.now in
    let l = c.loop-r in
    let r = c.next-step in
    let h = ap (λ (x : Turn). x.next) (sym r.ensures) ∙ ap said_next c.in_ok-r.was ∙ ap (λ (x : Option Record). said_next (Ok x)) c.in-Some.is in
    let m : l.t.at < (next_record s l.t).state.at = moves s l.t _ h in
    let i : l.t.at < length s = was_inside s l.t _ h in
    let e : r.result.state.at ≡ (next_record s l.t).state.at = ap (λ (x : Turn). x.state.at) r.ensures in
    omega (arith, m, i, e)
