-- The 0s are put in one piece.
use Rattle.std.proofs.Common.{◌≡◌, ◌-◌, List, ℕ, length, replicate, ap, ◌∙◌, arith}
use Rattle.std.proofs.lemmas.List.Edits.{sets}
use Rattle.cells.proofs.Put.{part_put}
use Rattle.plain_record.proofs.clear.Goals as goal

pub returns : goal.returns
returns c =
    let a = c.args in
    let k : length c.fill.new.self ≡ a.to - a.from = omega arith in
    part_put a.from _ a.n.now _ (omega arith) k ∙ ap (λ (s : List ℕ). sets a.n.now a.from s) (c.fill.ensures.after (λ y e. e) ∙ ap (λ (j : ℕ). replicate j 0) {y = a.to - a.from} (omega arith))
