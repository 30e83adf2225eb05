-- The first field begins at the place, any other after the comma that ends the one before it.
use native.Mathlib.Omega.{arith}
use mathlib.Core.Path.{◌∙◌, sym}
use Rattle.line.proofs.Laws.{part}
use Rattle.row.proofs.Parted.{part_one, part_later}
use Rattle.row.proofs.cut_field.Goals as goal

pub slice_bounds-result-count : goal.slice_bounds-result-count
slice_bounds-result-count c =
    let a = c.args in
    let p = c.requires in
    let w = part_one a.ends.now a.s.now a.at p.0 p.4 a.n c.if-n-eq1.true in
    w.begins

pub slice_bounds-result-start : goal.slice_bounds-result-start
slice_bounds-result-start c =
    let a = c.args in
    let p = c.requires in
    let w = part_one a.ends.now a.s.now a.at p.0 p.4 a.n c.if-n-eq1.true in
    w.begins

pub slice_bounds-result-end : goal.slice_bounds-result-end
slice_bounds-result-end c =
    let a = c.args in
    let p = c.requires in
    let w = part_one a.ends.now a.s.now a.at p.0 p.4 a.n c.if-n-eq1.true in
    w.within

pub returns-then-n-eq1 : goal.returns-then-n-eq1
returns-then-n-eq1 c =
    let a = c.args in
    let p = c.requires in
    let w = part_one a.ends.now a.s.now a.at p.0 p.4 a.n c.if-n-eq1.true in
    part a.s.now _ _ w.begins ∙ sym w.is

pub overflow_add-from : goal.overflow_add-from
overflow_add-from c =
    let a = c.args in
    let p = c.requires in
    let w = part_later a.ends.now a.s.now a.at p.0 p.4 a.n (omega arith) p.2 in
    omega (arith, w.begins, w.within)

pub slice_bounds-result-count-2 : goal.slice_bounds-result-count-2
slice_bounds-result-count-2 c =
    let a = c.args in
    let p = c.requires in
    let w = part_later a.ends.now a.s.now a.at p.0 p.4 a.n (omega arith) p.2 in
    w.begins

pub slice_bounds-result-start-2 : goal.slice_bounds-result-start-2
slice_bounds-result-start-2 c =
    let a = c.args in
    let p = c.requires in
    let w = part_later a.ends.now a.s.now a.at p.0 p.4 a.n (omega arith) p.2 in
    w.begins

pub slice_bounds-result-end-2 : goal.slice_bounds-result-end-2
slice_bounds-result-end-2 c =
    let a = c.args in
    let p = c.requires in
    let w = part_later a.ends.now a.s.now a.at p.0 p.4 a.n (omega arith) p.2 in
    w.within

pub returns : goal.returns
returns c =
    let a = c.args in
    let p = c.requires in
    let w = part_later a.ends.now a.s.now a.at p.0 p.4 a.n (omega arith) p.2 in
    part a.s.now _ _ w.begins ∙ sym w.is
