-- By the two answers of the reader; a number up to 999 stays what it is.
use native.Mathlib.Omega.{arith}
use Prim.Native.Nat.{ℕ, ◌≤◌}
use mathlib.Core.Path.{◌≡◌, sym, ap, ◌∙◌}
use mathlib.Core.Bool.{◌&&◌}
use mathlib.Core.List.{List}
use borrow.Author.Tests.{leb-true}
use lib.Dec.{leb}
use Rattle.cells.proofs.Alike.{and_parts}
use Rattle.cells.proofs.Split.{split}
use Rattle.number.specs.Number.{said, value, shortest, read_number}
use Rattle.record_line.specs.Line.{number_in}
use Rattle.record_line.proofs.record_number.Goals as goal

-- the number of a record stands in two bytes
small : (f : List ℕ) → number_in (read_number 1 999 f) ≤ 999
unfolding read_number
small f =
    split (shortest f && (leb 1 (value 0 f) && leb (value 0 f) 999))
    (λ e. simp e (leb-true _ _ (and_parts (leb 1 (value 0 f)) _ (and_parts (shortest f) _ e).1).1))
    (λ e. simp e (omega arith))

pub returns-in-Ok : goal.returns-in-Ok
returns-in-Ok c =
    let f = c.args.f.now in
    let e : c.in-Ok.n ≡ number_in (read_number 1 999 f) =
    ap number_in (sym (ap said c.in-Ok.is) ∙ c.read.ensures) in
    omega (arith, e, small f)

pub returns-in-Err : goal.returns-in-Err
returns-in-Err c = rw (← c.read.ensures, c.in-Err.is)
