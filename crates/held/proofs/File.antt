-- The lines of a file that is taken are what its records are written as.
-- Assumes nothing.
use Prim.Native.Nat.{ℕ, ◌+◌}
use mathlib.Core.Path.{◌≡◌, refl, ◌∙◌, ap₂}
use mathlib.Core.List.{List, [], ◌∷◌, map}
use native.Mathlib.Omega.{arith}
use lib.ListN.{length, drop}
use Rattle.cells.proofs.Split.{split as cases}
use Rattle.line.specs.Frame.{file}
use Rattle.line.specs.Fields.{split}
use Rattle.line.proofs.Laws.{join_split}
use Rattle.supplement.specs.declared.Supplement.{Supplement}
use Rattle.order.specs.Next.{closes}
use Rattle.field.specs.Field.{Context}
use Rattle.record.specs.Record.{after, supplements}
use Rattle.record_line.specs.Line.{read_parts}
use Rattle.record.specs.declared.Sofar.{Sofar}
use Rattle.record.specs.declared.Record.{Record}
use Rattle.record.specs.declared.Refusal.{Refusal}
use Rattle.reader.specs.File.{File, whole, stopped, on, in_list, read_lines}
use Rattle.reader.proofs.Lines.{after_line}
use Rattle.held.specs.Held.{held, print_record}
use Rattle.held.proofs.Record.{record_back}
use Rattle.std.specs.Prelude.{Err, Ok, Result}

-- a file that is refused is not whole
pub never_whole : {P : Type 0} {f : Refusal} → stopped f ≡ whole → P
never_whole h = absurd (let z : ◌≡◌ {A = ℕ} 0 1 = cc in omega arith)

module _ (s : List ℕ) where
  -- what records are written as, line by line
  abbrev written : List Record → List (List ℕ)
  written rs = map print_record (map (held s) rs)

  -- one line, and those after it
  line_back : (last : ℕ) (c : Context) (at : ℕ) (l : List ℕ) (ls : List (List ℕ)) (rest : Record → File) →
      drop at s ≡ file (l ∷ ls) → ((r : Record) → (rest r).ending ≡ whole → written (rest r).records ≡ ls) →
      (a : Result Record Refusal) → read_parts last c at (split l) ≡ a → (on a rest).ending ≡ whole → written (on a rest).records ≡ l ∷ ls
  unfolding file
  line_back last c at l ls rest e more (Ok r) h w =
      ap₂ (λ (k : List ℕ) (ks : List (List ℕ)). k ∷ ks)
      (record_back last c s at (0x0d ∷ 0x0a ∷ file ls) r (split l) h (rw join_split e) ∙ join_split l) (more r w)
  line_back last c at l ls rest e more (Err f) h w = never_whole w

  -- All lines from an offset on.
  pub lines_back : (ls : List (List ℕ)) (at : ℕ) (c : Sofar) (xs : List Supplement) → (read_lines at c xs ls).ending ≡ whole → drop at s ≡ file ls →
      map print_record (map (held s) (read_lines at c xs ls).records) ≡ ls
  unfolding read_lines
  lines_back [] at c xs w e = cases (closes c.last) (λ t. simp t) (λ t. simp t)
  lines_back (l ∷ ls) at c xs w e =
      line_back c.last (in_list c.before xs) at l ls (λ r. read_lines (at + length l + 2) (after c.before r) (supplements xs r) ls) e
      (λ r v. lines_back ls (at + length l + 2) (after c.before r) (supplements xs r) v (after_line s at l ls e))
      (read_parts c.last (in_list c.before xs) at (split l)) refl w
