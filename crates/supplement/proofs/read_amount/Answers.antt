-- At first all six columns are left.
use Rattle.std.proofs.Common.{refl, arith}
use Rattle.supplement.proofs.read_amount.Goals as goal

pub amount_from-requires : goal.amount_from-requires
amount_from-requires c =
    (omega arith, omega arith, omega arith, omega arith, record { tests = refl; figures = refl; places = λ z. omega arith })
