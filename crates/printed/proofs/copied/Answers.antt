-- The characters are copied in one piece.
-- Assumes nothing.
use Rattle.std.proofs.Common.{List, ℕ, length, replicate, ap, ◌∙◌}
use Rattle.std.proofs.lemmas.List.Edits.{sets}
use Rattle.cells.proofs.Put.{front_put}
use Rattle.printed.proofs.Fields.{put_all}
use Rattle.printed.proofs.copied.Goals as goal

pub returns : goal.returns
returns c =
    let s = c.args.s.now in
    put_all _ s c.requires (front_put _ (replicate 24 0) _ c.requires (ap length c.copy_from_slice.ensures.after) ∙ ap (λ (t : List ℕ). sets (replicate 24 0) 0 t) c.copy_from_slice.ensures.after)
