-- As many bytes are printed as were written, and the buffer has them.
use native.Mathlib.Omega.{arith}
use Rattle.rewriter.proofs.Laws.{inside}
use Rattle.rewrite.proofs.rewrite_sheet.Goals as goal

pub slice_bounds-write_all-end : goal.slice_bounds-write_all-end
slice_bounds-write_all-end g c =
    let a = c.args in
    omega (arith, inside a.s.now a.again.now _ c.rewrite-n.ensures)
