-- The columns that are left.
use Rattle.std.proofs.Common.{◌-◌}
use Rattle.supplement.proofs.+amount_from.Given as goal

abbrev pub decreases-amount_from : goal.decreases-amount_from
decreases-amount_from l = 8 - l.at
