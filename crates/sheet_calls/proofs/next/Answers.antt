-- By what the call hands out.
use Rattle.std.proofs.Common.{Ok}
use mathlib.Core.Path.{◌≡◌, ◌∙◌, ap, sym}
use Rattle.reader.specs.Reader.{next_record}
use Rattle.reader.specs.Said.{Turn, said_next, said}
use Rattle.reader.proofs.Laws.{again_refused, again_end}
use Rattle.told.specs.States.{reader_numbers, reader_of}
use Rattle.sheet_calls.proofs.Kept.{steps_on, steps_refused, steps_end}
use Rattle.sheet_calls.proofs.next.Goals as goal

pub returns-in-Some : goal.returns-in-Some
returns-in-Some c =
    let a = c.args in
    let e : said c.next-step.result ≡ next_record a.file.now (reader_of a.state.now) =
    c.next-step.ensures ∙ (λ i. next_record a.file.now (c.reader_state.ensures i)) in
    let h = ap (λ (x : Turn). x.next) (sym e) ∙ ap said_next (c.in-Ok.is ∙ ap Ok c.in-Some.is) in
    let n = c.put_reader.ensures in
    steps_on _ a.state.now a.numbers.now _ h _ _ (n.0 ∙ ap (λ (x : Turn). reader_numbers x.state) e, n.1 ∙ ap (λ (x : Turn). x.state) e) c.put_record.ensures

pub returns-in-Err : goal.returns-in-Err
returns-in-Err c =
    let a = c.args in
    let e : said c.next-step.result ≡ next_record a.file.now (reader_of a.state.now) =
    c.next-step.ensures ∙ (λ i. next_record a.file.now (c.reader_state.ensures i)) in
    let h = ap (λ (x : Turn). x.next) (sym e) ∙ ap said_next c.in-Err.is in
    steps_refused _ a.state.now a.numbers.now _ h _ _ c.put_refusal.ensures (sym (again_refused a.file.now (reader_of a.state.now) _ h))

pub returns-in-None : goal.returns-in-None
returns-in-None c =
    let a = c.args in
    let e : said c.next-step.result ≡ next_record a.file.now (reader_of a.state.now) =
    c.next-step.ensures ∙ (λ i. next_record a.file.now (c.reader_state.ensures i)) in
    let h = ap (λ (x : Turn). x.next) (sym e) ∙ ap said_next (c.in-Ok.is ∙ ap Ok c.in-None.is) in
    steps_end _ a.state.now a.numbers.now h (sym (again_end a.file.now (reader_of a.state.now) h))
