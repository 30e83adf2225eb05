-- A row depends on which supplements may stand, however that is described.
-- Assumes nothing.
use Prim.Native.Nat.{ℕ, ◌+◌}
use mathlib.Core.Path.{◌≡◌, refl, ◌∙◌, ap}
use mathlib.Core.Bool.{Bool, cond}
use mathlib.Core.List.{List, [], ◌∷◌}
use lib.Dec.{eqb}
use lib.ListN.{length}
use Rattle.line.specs.Fields.{join}
use Rattle.supplement.specs.declared.Supplement.{Supplement}
use Rattle.field.specs.Field.{judged_by, read_field}
use Rattle.field.specs.declared.Before.{Before}
use Rattle.field.specs.declared.Rule.{Rule}
use Rattle.field.specs.declared.Field.{Field}
use Rattle.field.proofs.Laws.{same_joins}
use Rattle.row.specs.Table.{rules, counted}
use Rattle.row.specs.Row.{miscounted, refused_at, fine, field_by_field, read_row}
use Rattle.row.specs.declared.Row.{Row}

module _ (joins joins' : Supplement → Bool) (same : (x : Supplement) → joins x ≡ joins' x) (b : Before) where
  same_fields : (k : ℕ) (rs : List Rule) (fs : List (List ℕ)) (w : Row) →
      field_by_field (judged_by b joins) k rs fs w ≡ field_by_field (judged_by b joins') k rs fs w
  unfolding field_by_field
  same_fields k [] fs w = refl
  same_fields k (r ∷ rs) [] w = refl
  same_fields k (r ∷ rs) (f ∷ fs) w =
      ap (λ (t : Field). cond (eqb t.fault.number 0) (field_by_field (judged_by b joins) (k + 1) rs fs w) (refused_at k t))
      (same_joins joins joins' same b r f)
      ∙ ap (λ (t : Row). cond (eqb (read_field (judged_by b joins') r f).fault.number 0) t (refused_at k (read_field (judged_by b joins') r f)))
      (same_fields (k + 1) rs fs w)

  pub same_row : (n at : ℕ) (fs : List (List ℕ)) → read_row (judged_by b joins) n at fs ≡ read_row (judged_by b joins') n at fs
  unfolding read_row
  same_row n at fs =
      ap (λ (w : Row). cond (counted n fs) w miscounted)
      (same_fields 1 (rules n fs) fs (fine (at + length (join fs) + 1)))
