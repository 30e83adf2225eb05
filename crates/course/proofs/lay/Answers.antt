-- Filled, then copied.
-- Assumes nothing.
use Prim.Native.Nat.{ℕ}
use mathlib.Core.Path.{◌≡◌, ◌∙◌, ap}
use mathlib.Core.List.{List}
use lib.ListN.{length, take, replicate, length-replicate}
use lib.Seq.{sets, length-sets}
use Rattle.course.specs.Kept.{doses_by}
use Rattle.course.proofs.Filling.{laid, length_doses}
use Rattle.course.proofs.lay.Goals as goal

pub copy-requires : goal.copy-requires
copy-requires c =
    let a = c.args in
    let f = c.fill_days.ensures in
    let l : length c.fill_days.new.days ≡ 366 = ap length f ∙ length-sets (replicate {A = ℕ} 366 0) 0 (doses_by a.c a.marks.now a.start 0 a.n) ∙ length-replicate {A = ℕ} 366 0 in
    (rw l c.requires.0, c.requires.0, c.requires.1)

pub returns : goal.returns
returns c =
    let a = c.args in
    let f = c.fill_days.ensures in
    c.copy.ensures ∙ ap (λ (d : List ℕ). sets a.out.now 0 (take a.n d)) f ∙
    laid a.out.now (replicate {A = ℕ} 366 0) (doses_by a.c a.marks.now a.start 0 a.n) a.n (length_doses a.c a.marks.now a.start 0 a.n) (rw (length-replicate {A = ℕ} 366 0) c.requires.0) c.requires.1
