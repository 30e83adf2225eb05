-- Demand 3: "Two accepted files that hold the same records once every date code is blanked, and the same days for each RP, are the same file
-- byte for byte. And every set of days can be written as date codes for an issue month, unless it is empty, holds a day that no calendar has, or
-- mixes every-month days with a named month's."
-- Assumes nothing.
use Prim.Native.Nat.{ℕ, ◌≤◌}
use mathlib.Core.Path.{◌≡◌, refl, ◌∙◌, sym}
use mathlib.Core.Bool.{Bool, true, false, not, ◌||◌}
use mathlib.Core.List.{List, map}
use mathlib.Core.Logic.{◌↔◌}
use lib.ListN.{length}
use Rattle.days.specs.Run.{takes, read_run}
use Rattle.days.proofs.Month.{a_month_lem}
use Rattle.days_writer.specs.Set.{empty, no_such_day, mixes, writable}
use Rattle.days_writer.specs.Code.Print.{printed}
use Rattle.days_writer.proofs.Laws.{can_be_written, only_these}
use Rattle.order.proofs.Bools.{clash, not_is}
use Rattle.record.specs.declared.Record.{Record}
use Rattle.reader.specs.File.{taken, read_file}
use Rattle.held.specs.Held.{held}
use Rattle.held.proofs.Laws as files
use Rattle.demands.specs.Blank.{blank, days_noted}
use Rattle.demands.proofs.Walk.{of_file}
use Rattle.demands.proofs.Same.{same_held}

-- Two accepted files, s with the records rs and t with the records qs, that hold the same records once every date code is blanked, and the same days
-- for each RP, are the same file byte for byte.
pub one_file : (s t : List ℕ) (rs qs : List Record) → read_file s ≡ taken rs → read_file t ≡ taken qs →
    map blank (map (held s) rs) ≡ map blank (map (held t) qs) → days_noted (map (held s) rs) ≡ days_noted (map (held t) qs) → s ≡ t
one_file s t rs qs h k b d =
    let p = of_file s rs h in
    let q = of_file t qs k in
    files.one_file s t rs qs h k (same_held 0 (map (held s) rs) (map (held t) qs) p.each q.each b (p.none_before ∙ sym q.none_before) d)

-- For an issue month, a set of days can be written, which is that some run of date codes reads as it, exactly when it is `writable`:
pub every_set : (issue : ℕ) (cells : List ℕ) → 1 ≤ issue → issue ≤ 12 → length cells ≡ 13 →
    (writable cells ≡ true) ↔ ((run : List ℕ) × (read_run issue run ≡ takes cells))
every_set issue cells lo hi l =
    (λ w. (printed issue cells, can_be_written issue cells (a_month_lem issue lo hi) l w), λ r. only_these issue r.0 cells r.1)

-- every set is so, unless it is empty, holds a day that no calendar has, or mixes every-month days with a named month's.
pub unless : (cells : List ℕ) → (writable cells ≡ true) ↔ ((empty cells ≡ false) × (no_such_day 0 cells ≡ false) × (mixes cells ≡ false))
unfolding writable
unless cells = none_of (empty cells) (no_such_day 0 cells) (mixes cells)
  where
    none_of : (a b c : Bool) → (not (a || (b || c)) ≡ true) ↔ ((a ≡ false) × (b ≡ false) × (c ≡ false))
    none_of true b c = (λ h. clash refl (sym h), λ h. sym h.0)
    none_of false true c = (λ h. clash refl (sym h), λ h. sym h.1)
    none_of false false c = (λ h. (refl, refl, not_is c h), λ h. rw h.2)
