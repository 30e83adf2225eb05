-- A line depends on which supplements may stand, however that is described.
-- Assumes nothing.
use Prim.Native.Nat.{ℕ, ◌+◌}
use mathlib.Core.Path.{◌≡◌, ap}
use mathlib.Core.Bool.{Bool, cond}
use mathlib.Core.List.{List, []}
use lib.Dec.{eqb}
use lib.ListN.{length, get_or, drop}
use Rattle.line.specs.Fields.{join, fields_at}
use Rattle.supplement.specs.declared.Supplement.{Supplement}
use Rattle.order.specs.Next.{follow}
use Rattle.field.specs.Field.{judged_by}
use Rattle.field.specs.declared.Before.{Before}
use Rattle.row.specs.declared.Row.{Row}
use Rattle.row.proofs.Same.{same_row}
use Rattle.record_line.specs.Line.{refusal, from_row, read_fields, record_number, read_parts, line_after, line_at}
use Rattle.std.specs.Prelude.{Err, Result}
use Rattle.record.specs.declared.Record.{Record}
use Rattle.record.specs.declared.Refusal.{Refusal}

module _ (joins joins' : Supplement → Bool) (same : (x : Supplement) → joins x ≡ joins' x) (last : ℕ) (b : Before) where
  pub same_fields : (at n from : ℕ) (fs : List (List ℕ)) →
      read_fields last (judged_by b joins) at n from fs ≡ read_fields last (judged_by b joins') at n from fs
  unfolding read_fields
  same_fields at n from fs =
      ap (λ (w : Row). cond (eqb (follow last n) 0) (from_row at n from fs w) (Err (refusal (follow last n) at)))
      (same_row joins joins' same b n from fs)

  pub same_parts : (at : ℕ) (parts : List (List ℕ)) → read_parts last (judged_by b joins) at parts ≡ read_parts last (judged_by b joins') at parts
  unfolding read_parts
  same_parts at parts = same_fields at (record_number parts) (at + length (get_or parts 0 []) + 1) (drop 1 parts)

  pub same_line : (s : List ℕ) (at : ℕ) → line_at last (judged_by b joins) s at ≡ line_at last (judged_by b joins') s at
  unfolding line_at
  same_line s at =
      ap (λ (a : Result Record Refusal). line_after (record { last = last; before = b }) a (at + length (join (fields_at s at)) + 2)) (same_parts at (fields_at s at))
