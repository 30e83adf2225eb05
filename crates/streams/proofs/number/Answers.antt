-- A character that is no digit ends all; a digit more gives the number of one digit more.
use Rattle.std.proofs.Common.{◌≡◌, ◌+◌, ◌*◌, ◌<◌, take, ap}
use native.Mathlib.Omega.{arith}
use lib.ListN.{get_or, length}
use Rattle.std.specs.Char.{digit_value}
use Rattle.std.specs.Str.Parse.{IsNumeral, digits_value}
use Rattle.std.proofs.lemmas.Int.Digits.{digits_more, digits_value_more}
use Rattle.std.proofs.lemmas.Str.Parse.{digit_at}
use Rattle.streams.proofs.number.Goals as goal

pub returns-in_err-digit : goal.returns-in_err-digit
returns-in_err-digit c =
    let w = c.args.word.now in
    let i = c.loop-c.c-index in
    let e = c.from.ensures in
    let n = c.in_err-digit.ensures.cases in
    let f : IsNumeral 10 w → ⊥ = λ h. let r = digit_at w i h.1 (omega arith) in omega (arith, n (omega (arith, e, r.0)) (omega (arith, e, r.1)), e, r.1) in
    record { cases = rw c.from_residual.ensures f }

pub loop-c-preserved : goal.loop-c-preserved
loop-c-preserved c =
    let w = c.args.word.now in
    let i = c.loop-c.c-index in
    let d = c.in_ok-digit.ensures.value in
    let e = c.from.ensures in
    let h : i < length w = omega arith in
    let v : digits_value 10 (take (i + 1) w) ≡ digits_value 10 (take i w) * 10 + digit_value (get_or w i 0) = digits_value_more 10 w i h in
    let e' : digit_value c.from.result ≡ digit_value (get_or w i 0) = ap digit_value e in
    (digits_more 10 w i h c.loop-c.invariant.0 (omega (arith, d.0, e')), omega (arith, d.1, e', v, c.loop-c.invariant.1, c.saturating_add-n.ensures, c.saturating_mul.ensures))
