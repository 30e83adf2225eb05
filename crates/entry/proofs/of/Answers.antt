-- `Laws` says that the parts are judged as the reader judges the fields.
use Rattle.field.specs.Field.{context}
use Rattle.entry.specs.Entry.{Parts}
use Rattle.entry.proofs.Laws.{as_entry}
use Rattle.entry.proofs.of.Goals as goal

pub returns : goal.returns
returns c =
    let a = c.args in
    let p = c.parts-count in
    let q : Parts =
    record { count = p.result; kinds = p.new.kinds; numbers = p.new.numbers; from = p.new.from; to = p.new.to; own = p.new.own } in
    as_entry a.c.last (context a.c.before) a.lent.now a.r c.wrong-w.result q p.ensures c.wrong-w.ensures
