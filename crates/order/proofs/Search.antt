-- A search through a table, one place further on.
-- Assumes nothing.
use Prim.Native.Nat.{ℕ, ◌+◌, ◌<◌}
use mathlib.Core.Path.{◌≡◌}
use mathlib.Core.Bool.{Bool, ◌||◌, or_assoc}
use mathlib.Core.List.{List}
use native.Mathlib.Numerals.{add-one}
use lib.ListN.{length, get_or, drop}
use lib.Seq.{drop-cons}
use Rattle.order.specs.Order.{some}

-- `found` says whether one has been found before
pub step : (p : ℕ → Bool) (t : List ℕ) (i : ℕ) (found : Bool) → i < length t →
    (found || p (get_or t i 0)) || some p (drop (i + 1) t) ≡ found || some p (drop i t)
unfolding some
step p t i found h = rw (add-one, drop-cons t i 0 h) (or_assoc found (p (get_or t i 0)) _)
