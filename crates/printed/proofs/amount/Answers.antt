-- The whole part, and the point with the decimals where something is left.
-- Assumes nothing.
use Prim.Native.Nat.{◌/◌, ◌%◌}
use mathlib.Core.Path.{◌≡◌, ◌∙◌, sym, ap}
use mathlib.Core.List.{◌∷◌}
use native.Mathlib.Omega.{arith}
use lib.ListN.{length}
use Rattle.number.specs.Print.{print_number, decimals}
use Rattle.printed.specs.declared.Piece.{Piece}
use Rattle.printed.specs.Printed.{piece}
use Rattle.printed.specs.Code.Put.{more}
use Rattle.printed.proofs.Digits.{width_most}
use Rattle.printed.proofs.Decimals.{decimals_most, no_part, with_part}
use Rattle.printed.proofs.Fields.{more_piece}
use Rattle.printed.proofs.amount.Goals as goal

pub returns-then-n-eq0 : goal.returns-then-n-eq0
returns-then-n-eq0 c = c.whole-w.ensures ∙ ap piece (sym (no_part c.args.n c.if-n-eq0.true))

pub pointed-requires : goal.pointed-requires
pointed-requires c =
    let n = c.args.n in
    let e : c.whole-w.result.length ≡ length (print_number (n / 100000)) = ap (λ (p : Piece). p.length) c.whole-w.ensures in
    (omega (arith, width_most 15 (n / 100000) (omega arith) (omega arith)), omega arith)

pub returns : goal.returns
returns c =
    let n = c.args.n in
    c.pointed.ensures ∙ ap (λ (p : Piece). more p (46 ∷ decimals 5 (n % 100000))) c.whole-w.ensures ∙
    more_piece (print_number (n / 100000)) (46 ∷ decimals 5 (n % 100000)) (omega (arith, width_most 15 (n / 100000) (omega arith) (omega arith), decimals_most 5 (n % 100000))) ∙
    ap piece (sym (with_part n c.if-n-eq0.false))
