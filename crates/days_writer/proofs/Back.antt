-- An allowed run of good codes is the run for the set of days that it names.
-- Assumes nothing.
use Prim.Native.Nat.{ℕ, zero, suc, ◌+◌, ◌-◌, ◌≤◌, ◌<◌}
use mathlib.Core.Path.{◌≡◌, refl, sym, ap, ap₂, ◌∙◌}
use mathlib.Core.Bool.{true}
use mathlib.Core.List.{List, [], ◌∷◌, ◌++◌}
use mathlib.Core.Logic.{◌⊎◌, inl, inr}
use native.Mathlib.Omega.{arith}
use borrow.Author.Tests.{eqb-true, eqb-false}
use lib.Dec.{eqb}
use lib.ListN.{length}
use Rattle.cells.proofs.Split.{split}
use Rattle.supplement.specs.Supplement.{last_day}
use Rattle.days.specs.Run.{Code, allowed, days_at, set_of}
use Rattle.days.specs.Code.Good.{code, Good}
use Rattle.days.proofs.Under.{last_most}
use Rattle.days.proofs.Next.{place, Next, same, ahead, next_place, next_of}
use Rattle.days.proofs.Named.{Goods, days_same, days_other, days_none, none_before, rise, set_at}
use Rattle.days_writer.specs.Code.Mask.{since}
use Rattle.days_writer.specs.Code.Print.{month_at, in_sixes, codes_from, days_in, run_of}
use Rattle.days_writer.proofs.Mask.{wider, days_of_mask}
use Rattle.days_writer.proofs.Months.{place_most, place_month, month_place, month_most}
use Rattle.days_writer.proofs.Sixes.{none, first}

-- ---- the codes by places

codes_same : (issue n p : ℕ) (f g : ℕ → List ℕ) → ((j : ℕ) → p ≤ j → j < p + n → f (month_at issue j) ≡ g (month_at issue j)) → codes_from issue n p f ≡ codes_from issue n p g
unfolding codes_from
codes_same issue zero p f g h = refl
codes_same issue (suc n) p f g h =
    ap₂ (λ (x y : List Code). x ++ y) (ap (in_sixes (month_at issue p)) (h p (omega arith) (omega arith)))
    (codes_same issue n (p + 1) f g (λ j a b. h j (omega arith) (omega arith)))

-- places with no days have no codes: at the end, and before a place q
pub codes_none : (issue n p : ℕ) (f : ℕ → List ℕ) → ((j : ℕ) → p ≤ j → f (month_at issue j) ≡ []) → codes_from issue n p f ≡ []
unfolding codes_from
codes_none issue zero p f h = refl
codes_none issue (suc n) p f h =
    ap₂ (λ (x y : List Code). x ++ y) (ap (in_sixes (month_at issue p)) (h p (omega arith)) ∙ none (month_at issue p)) (codes_none issue n (p + 1) f (λ j a. h j (omega arith)))

codes_skip : (issue n p q : ℕ) (f : ℕ → List ℕ) → p ≤ q → q ≤ 12 → p + n ≡ 13 → ((j : ℕ) → p ≤ j → j < q → f (month_at issue j) ≡ []) → codes_from issue n p f ≡ codes_from issue (suc (12 - q)) q f
unfolding codes_from
codes_skip issue zero p q f g h k z = absurd (omega arith)
codes_skip issue (suc n) p q f g h k z = go (λ l. codes_skip issue n (p + 1) q f l h (omega arith) (λ j a b. z j (omega arith) b))
  where
    go : (p + 1 ≤ q → codes_from issue n (p + 1) f ≡ codes_from issue (suc (12 - q)) q f) → codes_from issue (suc n) p f ≡ codes_from issue (suc (12 - q)) q f
    go r =
        split (eqb p q) (λ e. let i : p ≡ q = eqb-true _ _ e in let s : n ≡ 12 - q = omega arith in ap₂ (λ (x y : ℕ). codes_from issue (suc x) y f) s i)
        (λ e.
        let ne = eqb-false p q e in
        ap (λ (x : List Code). x ++ codes_from issue n (p + 1) f) (ap (in_sixes (month_at issue p)) (z p (omega arith) (omega arith)) ∙ none (month_at issue p))
        ∙ r (omega arith))

-- ---- back

module _ (issue : ℕ) (lo : 1 ≤ issue) (hi : issue ≤ 12) where
  -- a month of a place is no month of another place
  pub apart : (c : Code) (p : ℕ) → p ≤ 12 → (place issue c.month ≡ p → ⊥) → c.month ≡ month_at issue p → ⊥
  apart c p h n e = n (ap (place issue) e ∙ place_month issue lo hi p h)

  -- a run names no day of a place before its first code
  pub none_at : (cs : List Code) (c : Code) (p : ℕ) → p < place issue c.month → allowed issue (c ∷ cs) ≡ true → days_at (month_at issue p) (c ∷ cs) ≡ []
  none_at cs c p h k =
      let q = place_most issue c.month in
      none_before issue cs c (month_at issue p) (omega (arith, place_month issue lo hi p (omega arith))) k

  -- the first code of a run is the first that is printed for its place
  first_code : (cs : List Code) (c : Code) (p : ℕ) → place issue c.month ≡ p → Good c → allowed issue (c ∷ cs) ≡ true →
      (length c.days ≡ 6) ⊎ (days_at (month_at issue p) cs ≡ [])
  first_code [] c p e g k = inr (days_none (month_at issue p))
  first_code (d ∷ cs) c p e g k = let n = next_of issue c d cs k in go n.0 n.1
    where
      go : Next issue c d → allowed issue (d ∷ cs) ≡ true → (length c.days ≡ 6) ⊎ (days_at (month_at issue p) (d ∷ cs) ≡ [])
      go (same a l r) m = inl l
      go (ahead x y r) m = inr (none_at cs d p (omega arith) m)

  at_place : (cs : List Code) (c : Code) (n p : ℕ) → place issue c.month ≡ p → p + suc n ≡ 13 → Good c → allowed issue (c ∷ cs) ≡ true →
      codes_from issue (suc n) p (λ m. days_at m (c ∷ cs)) ≡ c ∷ codes_from issue (suc n) p (λ m. days_at m cs)
  unfolding codes_from
  at_place cs c n p e q g k =
      let i : month_at issue p ≡ c.month = ap (month_at issue) (sym e) ∙ month_place issue lo hi c.month g.named in
      let a : in_sixes (month_at issue p) (days_at (month_at issue p) (c ∷ cs)) ≡ c ∷ in_sixes (month_at issue p) (days_at (month_at issue p) cs) =
      ap (in_sixes (month_at issue p)) (days_same (month_at issue p) c cs (sym i))
      ∙ first (month_at issue p) c.days (days_at (month_at issue p) cs) g.some g.most (first_code cs c p e g k)
      ∙ ap (λ (m : ℕ). code m c.days ∷ in_sixes (month_at issue p) (days_at (month_at issue p) cs)) i in
      ap₂ (λ (x y : List Code). x ++ y) a
      (codes_same issue n (p + 1) (λ m. days_at m (c ∷ cs)) (λ m. days_at m cs) (λ j u v. days_other (month_at issue j) c cs (apart c j (omega arith) (λ z. omega arith))))

  one_more : (cs : List Code) (c : Code) (n p : ℕ) → p + n ≡ 13 → p ≤ place issue c.month → Good c → allowed issue (c ∷ cs) ≡ true →
      codes_from issue (suc (12 - place issue c.month)) (place issue c.month) (λ m. days_at m cs) ≡ cs → codes_from issue n p (λ m. days_at m (c ∷ cs)) ≡ c ∷ cs
  one_more cs c n p a b g k r =
      let q = place_most issue c.month in
      codes_skip issue n p (place issue c.month) (λ m. days_at m (c ∷ cs)) b q a (λ j x y. none_at cs c j y k)
      ∙ at_place cs c (12 - place issue c.month) (place issue c.month) refl (omega arith) g k
      ∙ ap (λ (xs : List Code). c ∷ xs) r

  -- the codes printed from a place on for the days of a run that starts there or later are the run
  from_place : (cs : List Code) (c : Code) (n p : ℕ) → p + n ≡ 13 → p ≤ place issue c.month → Good c → Goods cs → allowed issue (c ∷ cs) ≡ true →
      codes_from issue n p (λ m. days_at m (c ∷ cs)) ≡ c ∷ cs
  from_place [] c n p a b g gs k =
      one_more [] c n p a b g k (codes_none issue (suc (12 - place issue c.month)) (place issue c.month) (λ m. days_at m []) (λ j z. days_none (month_at issue j)))
  from_place (d ∷ cs) c n p a b g gs k =
      let q = place_most issue c.month in
      let x = next_of issue c d cs k in
      one_more (d ∷ cs) c n p a b g k
      (from_place cs d (suc (12 - place issue c.month)) (place issue c.month) (omega arith) (next_place issue c d x.0) gs.0 gs.1 x.1)

-- the law: an allowed run of good codes is the run for the set that it names
pub back : (issue : ℕ) (cs : List Code) → 1 ≤ issue → issue ≤ 12 → Goods cs → allowed issue cs ≡ true → run_of issue (set_of cs) ≡ cs
unfolding run_of allowed
back issue [] lo hi g k = absurd (let z : ◌≡◌ {A = ℕ} 0 1 = cc in omega arith)
back issue (c ∷ cs) lo hi g k =
    codes_same issue 13 0 (days_in (set_of (c ∷ cs))) (λ m. days_at m (c ∷ cs))
    (λ j a b.
    let l = last_most (month_at issue j) (month_most issue j) in
    ap (λ (x : ℕ). since x 1) (set_at (month_at issue j) (c ∷ cs) (month_most issue j))
    ∙ days_of_mask (days_at (month_at issue j) (c ∷ cs))
    (wider (last_day (month_at issue j) + 1) 32 1 (days_at (month_at issue j) (c ∷ cs)) (omega arith) (rise issue cs c (month_at issue j) g.0 g.1 k)))
    ∙ from_place issue lo hi cs c 13 0 refl (omega arith) g.0 g.1 k
