-- The days are copied in one piece.
use Rattle.std.proofs.Common.{◌≡◌, List, ℕ, length, take, ap, ◌∙◌, arith}
use Rattle.std.proofs.lemmas.List.Edits.{sets}
use lib.Seq.{length-take-le}
use Rattle.cells.proofs.Put.{front_put}
use Rattle.course.proofs.copy.Goals as goal

pub returns : goal.returns
returns c =
    let a = c.args in
    front_put a.n a.out.now _ (omega arith) (ap (λ (t : List ℕ). length t) c.copy_from_slice.ensures.after ∙ length-take-le a.n a.days.now (omega arith)) ∙ ap (λ (s : List ℕ). sets a.out.now 0 s) c.copy_from_slice.ensures.after
