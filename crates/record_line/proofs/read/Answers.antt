-- By what the line begins with, then by its fields.
use mathlib.Core.Path.{ap, ◌∙◌}
use Rattle.field.specs.Field.{context}
use Rattle.record_line.specs.Code.Built.{refused_line, headed_line}
use Rattle.record_line.proofs.read.Goals as goal

pub read_fields-requires : goal.read_fields-requires
read_fields-requires c = c.read_head.ensures.inside _ c.in-Ok.is

pub returns-in-Ok : goal.returns-in-Ok
returns-in-Ok c =
    let a = c.args in
    c.read_fields.ensures ∙ (rw c.in-Ok.is at (c.read_head.ensures.line (context a.c.before)))

pub returns-in-Err : goal.returns-in-Err
returns-in-Err c =
    let a = c.args in
    c.refused_line.ensures ∙ (rw c.in-Err.is at (c.read_head.ensures.line (context a.c.before)))
