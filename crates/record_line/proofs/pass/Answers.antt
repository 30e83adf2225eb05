-- By what the line begins with, then by its fields.
use Rattle.std.proofs.Common.{rules, ◌≡◌, Err, ap, ◌∙◌}
use Rattle.field.specs.Field.{context}
use Rattle.record_line.specs.Line.{passed_of}
use Rattle.record_line.proofs.pass.Goals as goal

pub pass_fields-requires : goal.pass_fields-requires
pass_fields-requires c = c.read_head.ensures.inside _ c.in_ok-h.was

pub returns-in_err-h : goal.returns-in_err-h
returns-in_err-h c =
    let a = c.args in
    let e : c.from_residual.result ≡ Err c.in_err-h.field-0.0 = search rules in
    e ∙ ap passed_of (rw c.in_err-h.was at (c.read_head.ensures.line (context a.c.before)))

pub returns : goal.returns
returns c =
    let a = c.args in
    c.pass_fields.ensures ∙ ap passed_of (rw c.in_ok-h.was at (c.read_head.ensures.line (context a.c.before)))
