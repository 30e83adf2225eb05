-- Table 8: its lines of masks are its rows, by one computed test.
-- Assumes nothing.
use Prim.Native.Nat.{ℕ, ◌<◌}
use mathlib.Core.Path.{◌≡◌, refl}
use mathlib.Core.Bool.{Bool, true, false, cond, ◌||◌, ◌&&◌}
use mathlib.Core.List.{List, [], ◌∷◌}
use native.Mathlib.Omega.{arith}
use Rattle.std.specs.List.{list_any}
use Rattle.cells.specs.Text.{among}
use Rattle.cells.specs.Code.Mask.{value, has}
use Rattle.cells.proofs.Alike.{and_left, and_right}
use Rattle.cells.proofs.Bridge.{agrees}
use Rattle.usage.specs.Usage.{Rows, table8, in_table}
use Rattle.usage.specs.Code.Sets.{lines, in_line, in_lines}
use Rattle.usage.specs.declared.Line.{Line}
use Rattle.usage.proofs.Masks.{equal}

-- the masks are the rows
abbrev same : List Rows → List Line → Bool
same [] [] = true
same [] (l ∷ ls) = false
same (r ∷ rs) [] = false
same (r ∷ rs) (l ∷ ls) = equal l.0 r.fifth && (equal l.1 r.sixth && (equal l.2 r.condition && same rs ls))

either : (x y : Bool) → cond x true y ≡ x || y
either true y = refl
either false y = refl

module _ (a b c : ℕ) (ha : a < 256) (hb : b < 256) (hc : c < 256) where
  every : (rs : List Rows) (ls : List Line) → same rs ls ≡ true → in_table rs a b c ≡ list_any (λ l. in_line l a b c) ls
  unfolding in_table
  every [] [] h = refl
  every [] (l ∷ ls) h = absurd (let z : ◌≡◌ {A = ℕ} 0 1 = cc in omega arith)
  every (r ∷ rs) [] h = absurd (let z : ◌≡◌ {A = ℕ} 0 1 = cc in omega arith)
  every (r ∷ rs) (l ∷ ls) h =
      let x = and_right (equal l.0 r.fifth) _ h in
      let y = and_right (equal l.1 r.sixth) _ x in
      let p : has l.0 (value a) ≡ among r.fifth a = agrees _ _ (and_left (equal l.0 r.fifth) _ h) a ha in
      let q : has l.1 (value b) ≡ among r.sixth b = agrees _ _ (and_left (equal l.1 r.sixth) _ x) b hb in
      let t : has l.2 (value c) ≡ among r.condition c = agrees _ _ (and_left (equal l.2 r.condition) _ y) c hc in
      simp (p, q, t, every rs ls (and_right (equal l.2 r.condition) _ y)) (either (among r.fifth a && (among r.sixth b && among r.condition c)) _)

  pub by_lines : in_table table8 a b c ≡ in_lines a b c
  unfolding lines has value among
  by_lines = every table8 lines refl
