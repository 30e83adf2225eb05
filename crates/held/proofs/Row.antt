-- A row of fields that is fine: it has as many fields as rules, and each field passes its own.
-- Assumes nothing.
use Prim.Native.Nat.{ℕ, zero, suc, ◌+◌, ◌<◌, ◌≤◌}
use mathlib.Core.Path.{◌≡◌, ◌∙◌, sym, ap}
use mathlib.Core.List.{List, [], ◌∷◌}
use native.Mathlib.Omega.{arith}
use borrow.Author.Tests.{leb-true}
use lib.Dec.{leb}
use lib.ListN.{length, get_or, drop, drop_of_length-le}
use lib.Seq.{drop-cons}
use Rattle.cells.proofs.Split.{split as cases}
use Rattle.cells.proofs.Alike.{and_left}
use Rattle.field.specs.Field.{Context, rule, wrong}
use Rattle.row.specs.Table.{rules, counted}
use Rattle.row.specs.Row.{read_row}
use Rattle.row.proofs.Each.{as_many, right_fields}

-- n fields, from the one with k before it on
unfoldable pub placed : ℕ → ℕ → List (List ℕ) → List (List ℕ)
placed zero k fs = []
placed (suc n) k fs = get_or fs k [] ∷ placed n (suc k) fs

placed_from : (n k : ℕ) (fs : List (List ℕ)) → length fs ≡ k + n → placed n k fs ≡ drop k fs
unfolding placed
placed_from zero k fs l = sym (drop_of_length-le fs {i = k} (omega arith))
placed_from (suc n) k fs l =
    ap (λ (r : List (List ℕ)). get_or fs k [] ∷ r) (placed_from n (suc k) fs (omega arith)) ∙ sym (drop-cons fs k [] (omega arith))

-- as many as there are, from the first on, are all of them
pub by_places : (n : ℕ) (fs : List (List ℕ)) → length fs ≡ n → placed n 0 fs ≡ fs
by_places n fs l = placed_from n 0 fs (omega arith)

module _ (c : Context) where
  -- The fields of a record of this number, none of them wrong.
  pub record Fine (n : ℕ) (fs : List (List ℕ)) : Type 0 where
    pub some : 1 ≤ length fs
    pub count : length fs ≡ length (rules n fs)
    pub passes : (j : ℕ) → j < length fs → (wrong c (get_or (rules n fs) j (rule 0 0 0 0)) (get_or fs j [])).number ≡ 0

  -- A row with no fault is so.
  pub row_fine : (n at : ℕ) (fs : List (List ℕ)) → (read_row c n at fs).fault.number ≡ 0 → Fine n fs
  unfolding read_row counted
  row_fine n at fs h =
      cases (counted n fs)
      (λ e. record {
        some = leb-true 1 (length fs) (and_left (leb 1 (length fs)) _ e);
        count = as_many c n at fs h;
        passes = λ j l. right_fields c n at fs h j (rule 0 0 0 0) l;
      })
      (λ e. absurd (let z : ◌≡◌ {A = ℕ} 25 0 = simp e at h in omega arith))
