-- The measure is the columns left. Each column is judged by what has been seen, and what it adds is added to what was read (`Left`).
use mathlib.Core.Path.{◌≡◌, ◌∙◌, sym}
use Prim.Native.Nat.{◌-◌, suc, ◌+◌}
use native.Mathlib.Omega.{arith}
use Rattle.supplement.specs.Code.Read.{told}
use Rattle.supplement.proofs.Columns.{none_left, stopped, went_on, counted_most, fits_after}
use Rattle.supplement.proofs.+amount_from.Goals as goal

pub returns-then-at-eq8 : goal.returns-then-at-eq8
returns-then-at-eq8 t c =
    let a = c.args in none_left a.s.now a.at (told a.seen) a.figures a.places c.requires.4 (omega arith)

pub returns-then-not-may : goal.returns-then-not-may
returns-then-not-may t c =
    let a = c.args in
    stopped a.s.now a.at (told a.seen) a.figures a.places c.requires.4 (omega (arith, c.requires)) (sym c.may.ensures ∙ c.if-not-may.true)

pub amount_from-requires : goal.amount_from-requires
amount_from-requires t c =
    let a = c.args in
    let e : a.at + 1 - 2 ≡ suc (a.at - 2) = omega arith in (
      omega (arith, c.requires, c.decreases),
      (
        omega (arith, c.requires),
        omega (arith, c.requires),
        rw (e, c.with_figure.ensures) (fits_after a.figures _ (a.at - 2) c.requires.2),
        omega (arith, c.requires, counted_most (told c.next-then.result)),
        rw (c.next-then.ensures, c.with_figure.ensures, c.counted.ensures, c.next-then.ensures)
            (went_on a.s.now a.at (told a.seen) a.figures a.places c.requires.4 (omega (arith, c.requires)) (sym c.may.ensures ∙ c.if-not-may.false)),
      ),
    )
