-- The days that the codes of a run name for a month, which rise where the run is allowed, and the set that they make.
-- Assumes nothing.
use Prim.Native.Nat.{ℕ, zero, suc, ◌+◌, ◌≤◌, ◌<◌}
use mathlib.Core.Path.{◌≡◌, refl, sym, ap, ◌∙◌}
use mathlib.Core.Bool.{true, cond}
use mathlib.Core.List.{List, [], ◌∷◌, ◌++◌, map, append_assoc}
use native.Mathlib.Omega.{arith}
use borrow.Author.Tests.{eq-eqb, ne_eqb, eqb-true, eqb-false}
use lib.Dec.{eqb}
use lib.ListN.{length, get_or}
use Rattle.cells.proofs.Split.{split}
use Rattle.supplement.specs.Supplement.{last_day}
use Rattle.days.specs.Run.{Code, last_of, allowed, mask_of, days_at, thirteen, set_of}
use Rattle.days.specs.Code.Good.{Rising, Good}
use Rattle.days.proofs.Under.{under}
use Rattle.days.proofs.Next.{place, Next, same, ahead, next_place, next_of}

-- ---- good codes

-- every code of a run
abbrev pub Goods : List Code → Type 0
Goods [] = Unit
Goods (c ∷ cs) = Good c × Goods cs

pub goods_append : (xs ys : List Code) → Goods xs → Goods ys → Goods (xs ++ ys)
goods_append [] ys g h = h
goods_append (x ∷ xs) ys g h = (g.0, goods_append xs ys g.1 h)

-- ---- the days that codes name for a month

pub days_same : (m : ℕ) (c : Code) (cs : List Code) → c.month ≡ m → days_at m (c ∷ cs) ≡ c.days ++ days_at m cs
unfolding days_at
days_same m c cs e = simp (eq-eqb c.month m e)

pub days_other : (m : ℕ) (c : Code) (cs : List Code) → (c.month ≡ m → ⊥) → days_at m (c ∷ cs) ≡ days_at m cs
unfolding days_at
days_other m c cs e = simp (ne_eqb c.month m e)

pub days_none : (m : ℕ) → days_at m [] ≡ []
unfolding days_at
days_none m = refl

pub days_append : (m : ℕ) (xs ys : List Code) → days_at m (xs ++ ys) ≡ days_at m xs ++ days_at m ys
unfolding days_at
days_append m [] ys = refl
days_append m (c ∷ xs) ys =
    ap (λ (l : List ℕ). cond (eqb c.month m) c.days [] ++ l) (days_append m xs ys) ∙ sym (append_assoc (cond (eqb c.month m) c.days []) (days_at m xs) (days_at m ys))

-- ---- the days that an allowed run names for a month rise

joined : (hi lo : ℕ) (xs ys : List ℕ) → 1 ≤ length xs → Rising hi lo xs → Rising hi (last_of xs + 1) ys → Rising hi lo (xs ++ ys)
unfolding last_of
joined hi lo [] ys n r s = absurd (omega arith)
joined hi lo (x ∷ []) ys n r s = (r.0, r.1, s)
joined hi lo (x ∷ y ∷ xs) ys n r s = (r.0, r.1, joined hi (x + 1) (y ∷ xs) ys (omega arith) r.2 s)

starts : (hi lo lo' : ℕ) (xs : List ℕ) → lo' ≤ get_or xs 0 0 → Rising hi lo xs → Rising hi lo' xs
starts hi lo lo' [] h r = tt
starts hi lo lo' (x ∷ xs) h r = (h, r.1, r.2)

module _ (issue : ℕ) where
  sooner : (c : Code) (m : ℕ) → place issue m < place issue c.month → c.month ≡ m → ⊥
  sooner c m h e = let q = ap (place issue) e in omega arith

  -- a run names no day of a month that has its place before the first code's
  pub none_before : (cs : List Code) (c : Code) (m : ℕ) → place issue m < place issue c.month → allowed issue (c ∷ cs) ≡ true → days_at m (c ∷ cs) ≡ []
  none_before [] c m h k = days_other m c [] (sooner c m h) ∙ days_none m
  none_before (d ∷ cs) c m h k =
      let n = next_of issue c d cs k in
      let l = next_place issue c d n.0 in
      days_other m c (d ∷ cs) (sooner c m h) ∙ none_before cs d m (omega arith) n.1

  rise_after : (cs : List Code) (c : Code) → Goods cs → allowed issue (c ∷ cs) ≡ true → Rising (last_day c.month + 1) (last_of c.days + 1) (days_at c.month cs)
  rise_after [] c g k = rw (days_none c.month) tt
  rise_after (d ∷ cs) c g k = let n = next_of issue c d cs k in go (rise_after cs d g.1 n.1) n.1 n.0
    where
      go : Rising (last_day d.month + 1) (last_of d.days + 1) (days_at d.month cs) → allowed issue (d ∷ cs) ≡ true → Next issue c d → Rising (last_day c.month + 1) (last_of c.days + 1) (days_at c.month (d ∷ cs))
      go r m (same e l h) =
          let s : Rising (last_day d.month + 1) (last_of c.days + 1) d.days = starts (last_day d.month + 1) 1 (last_of c.days + 1) d.days (omega arith) g.0.rises in
          rw (days_same c.month d cs (sym e), e) (joined (last_day d.month + 1) (last_of c.days + 1) d.days (days_at d.month cs) g.0.some s r)
      go r m (ahead x y h) = rw (none_before cs d c.month h m) tt

  rise_with : (cs : List Code) (c : Code) (m : ℕ) → Good c → Goods cs → allowed issue (c ∷ cs) ≡ true → Rising (last_day m + 1) 1 (days_at m cs) → Rising (last_day m + 1) 1 (days_at m (c ∷ cs))
  rise_with cs c m gc g k r =
      split (eqb c.month m)
      (λ e.
      let i : c.month ≡ m = eqb-true _ _ e in
      rw (days_same m c cs i) (rw i at (joined (last_day c.month + 1) 1 c.days (days_at c.month cs) gc.some gc.rises (rise_after cs c g k))))
      (λ e. rw (days_other m c cs (eqb-false _ _ e)) r)

  pub rise : (cs : List Code) (c : Code) (m : ℕ) → Good c → Goods cs → allowed issue (c ∷ cs) ≡ true → Rising (last_day m + 1) 1 (days_at m (c ∷ cs))
  rise [] c m gc g k = rise_with [] c m gc g k (rw (days_none m) tt)
  rise (d ∷ cs) c m gc g k = rise_with (d ∷ cs) c m gc g k (rise cs d m g.0 g.1 (next_of issue c d cs k).1)

-- ---- the set

pub length-set : (cs : List Code) → length (set_of cs) ≡ 13
unfolding set_of
length-set cs = refl

map_at : (f : ℕ → ℕ) (xs : List ℕ) (m : ℕ) → m < length xs → get_or (map f xs) m 0 ≡ f (get_or xs m 0)
map_at f [] m h = absurd (omega arith)
map_at f (x ∷ xs) zero h = refl
map_at f (x ∷ xs) (suc m) h = map_at f xs m (omega arith)

pub set_at : (m : ℕ) (cs : List Code) → m ≤ 12 → get_or (set_of cs) m 0 ≡ mask_of (days_at m cs)
unfolding set_of
set_at m cs h =
    let e : get_or thirteen m 0 ≡ m = eqb-true _ _ (under (λ m. eqb (get_or thirteen m 0) m) 13 refl (omega arith) m (omega arith)) in
    map_at (λ m. mask_of (days_at m cs)) thirteen m (omega arith) ∙ ap (λ (m : ℕ). mask_of (days_at m cs)) e
