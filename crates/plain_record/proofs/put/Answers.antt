-- The numbers are put in one piece.
use Rattle.std.proofs.Common.{List, ℕ, ap, ◌∙◌, arith}
use Rattle.std.proofs.lemmas.List.Edits.{sets}
use Rattle.cells.proofs.Put.{part_put}
use Rattle.plain_record.proofs.put.Goals as goal

pub returns : goal.returns
returns c =
    let a = c.args in
    part_put a.at _ a.n.now _ (omega arith) (omega arith) ∙ ap (λ (s : List ℕ). sets a.n.now a.at s) c.copy_from_slice.ensures.after
