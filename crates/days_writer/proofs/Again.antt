-- The run for a set that can be written: its codes are good, it is allowed, and it names the set. And the set that an allowed run names can
-- be written.
-- Assumes nothing.
use Prim.Native.Nat.{ℕ, zero, suc, ◌+◌, ◌/◌, ◌^◌, ◌≤◌, ◌<◌}
use mathlib.Core.Path.{◌≡◌, refl, sym, ap, ap₂, ◌∙◌}
use mathlib.Core.Bool.{true, false}
use mathlib.Core.List.{List, [], ◌∷◌, ◌++◌, append-nil}
use mathlib.Core.Logic.{◌⊎◌, inl, inr}
use native.Mathlib.Omega.{arith}
use borrow.Author.Tests.{eqb-true, eqb-false, leb-true, leb-false}
use lib.Dec.{eqb, leb}
use lib.ListN.{length, get_or, take, drop, length-append, length-take, drop_of_length-le}
use lib.Pow.{pow_mono}
use lib.Seq.{ext_get_or}
use Rattle.cells.specs.Limits.{run_most}
use Rattle.cells.proofs.Split.{split}
use Rattle.supplement.specs.Supplement.{last_day}
use Rattle.days.specs.Run.{Code, last_of, allowed, mask_of, days_at, set_of}
use Rattle.days.specs.Code.Good.{code, Rising, Good}
use Rattle.days.proofs.Under.{under, last_most, and_intro}
use Rattle.days.proofs.Rising.{mask_below, mask_append}
use Rattle.days.proofs.Next.{place, place_named, Next, same, ahead, next_of}
use Rattle.days.proofs.Named.{Goods, goods_append, days_same, days_other, days_append, rise, length-set, set_at}
use Rattle.days_writer.specs.Set.{empty}
use Rattle.days_writer.specs.Code.Mask.{since}
use Rattle.days_writer.specs.Code.Print.{month_at, in_sixes, codes_from, days_in, run_of}
use Rattle.days_writer.proofs.Mask.{wider, few, mask_of_days, mask_some, days_rise, since_zero}
use Rattle.days_writer.proofs.Months.{place_most, place_month, month_place, month_most, month_zero, month_named, next_follows}
use Rattle.days_writer.proofs.Sixes.{six, none, sixes, count, own, other, goods}
use Rattle.days_writer.proofs.Back.{codes_none, none_at}
use Rattle.days_writer.proofs.Sets.{Can, empty_at}

-- ---- the days that the run names

module _ (issue : ℕ) (lo : 1 ≤ issue) (hi : issue ≤ 12) (f : ℕ → List ℕ) where
  away : (p m : ℕ) → p ≤ 12 → (p ≡ place issue m → ⊥) → month_at issue p ≡ m → ⊥
  away p m h n e = n (sym (place_month issue lo hi p h) ∙ ap (place issue) e)

  days_past : (n p m : ℕ) → p + n ≤ 13 → place issue m < p → days_at m (codes_from issue n p f) ≡ []
  unfolding codes_from days_at
  days_past zero p m q h = refl
  days_past (suc n) p m q h =
      days_append m (in_sixes (month_at issue p) (f (month_at issue p))) (codes_from issue n (p + 1) f)
      ∙ ap₂ (λ (x y : List ℕ). x ++ y) (other (month_at issue p) m (f (month_at issue p)) (away p m (omega arith) (λ e. omega arith))) (days_past n (p + 1) m (omega arith) (omega arith))

  -- for each month its own
  days_found : (n p m : ℕ) → m ≤ 12 → p + n ≡ 13 → p ≤ place issue m → days_at m (codes_from issue n p f) ≡ f m
  unfolding codes_from
  days_found zero p m k q h = absurd (omega (arith, place_most issue m))
  days_found (suc n) p m k q h = go (λ l. days_found n (p + 1) m k (omega arith) l)
    where
      go : (p + 1 ≤ place issue m → days_at m (codes_from issue n (p + 1) f) ≡ f m) → days_at m (codes_from issue (suc n) p f) ≡ f m
      go r =
          days_append m (in_sixes (month_at issue p) (f (month_at issue p))) (codes_from issue n (p + 1) f)
          ∙ split (eqb p (place issue m))
          (λ e.
          let i : p ≡ place issue m = eqb-true _ _ e in
          let j : month_at issue p ≡ m = ap (month_at issue) i ∙ month_place issue lo hi m k in
          ap₂ (λ (x y : List ℕ). x ++ y) (ap (λ (x : ℕ). days_at m (in_sixes x (f x))) j ∙ own m (f m)) (days_past n (p + 1) m (omega arith) (omega arith)) ∙ append-nil (f m))
          (λ e.
          let z = eqb-false p (place issue m) e in
          ap₂ (λ (x y : List ℕ). x ++ y) (other (month_at issue p) m (f (month_at issue p)) (away p m (omega arith) z)) (r (omega arith)))

small : (s : List ℕ) (m : ℕ) → Can s → m ≤ 12 → get_or s m 0 < 2 ^ 31
small s m c h = let a = c.exist m h in let b : 2 ^ last_day m ≤ 2 ^ 31 = pow_mono (last_most m h) in omega arith

-- the run names the set
pub names : (issue : ℕ) (s : List ℕ) → 1 ≤ issue → issue ≤ 12 → length s ≡ 13 → Can s → set_of (run_of issue s) ≡ s
unfolding run_of
names issue s lo hi l c =
    let n = length-set (codes_from issue 13 0 (days_in s)) in
    ext_get_or 0 (set_of (codes_from issue 13 0 (days_in s))) s (n ∙ sym l)
    (λ i h.
    set_at i (codes_from issue 13 0 (days_in s)) (omega arith)
    ∙ ap mask_of (days_found issue lo hi (days_in s) 13 0 i (omega arith) refl (omega arith))
    ∙ mask_of_days (get_or s i 0) (small s i c (omega arith)))

-- ---- its codes are good

in_month : (s : List ℕ) (m : ℕ) → Can s → m ≤ 12 → Rising (last_day m + 1) 1 (days_in s m)
in_month s m c h = days_rise (get_or s m 0) (last_day m) (last_most m h) (c.exist m h)

goods_from : (issue n p : ℕ) (s : List ℕ) → Can s → Goods (codes_from issue n p (days_in s))
unfolding codes_from
goods_from issue zero p s c = tt
goods_from issue (suc n) p s c =
    let m = month_most issue p in
    goods_append (in_sixes (month_at issue p) (days_in s (month_at issue p))) (codes_from issue n (p + 1) (days_in s))
    (goods (month_at issue p) (days_in s (month_at issue p)) m (in_month s (month_at issue p) c m)) (goods_from issue n (p + 1) s c)

pub good_run : (issue : ℕ) (s : List ℕ) → Can s → Goods (run_of issue s)
unfolding run_of
good_run issue s c = goods_from issue 13 0 s c

-- ---- it is allowed

-- no codes, or an allowed run whose first code is as asked
abbrev Heads : ℕ → (Code → Type 0) → List Code → Type 0
Heads issue ok [] = Unit
Heads issue ok (c ∷ cs) = ok c × (allowed issue (c ∷ cs) ≡ true)

leads : (issue : ℕ) (a : Code) (cs : List Code) → Heads issue (Next issue a) cs → allowed issue (a ∷ cs) ≡ true
unfolding allowed
leads issue a [] h = refl
leads issue a (c ∷ cs) h = and_intro _ _ (next_follows issue a c h.0) h.1

rises_past : (n hi lo : ℕ) (ds : List ℕ) → Rising hi lo ds → Rising hi (last_of (take (suc n) ds) + 1) (drop (suc n) ds)
unfolding last_of
rises_past n hi lo [] r = tt
rises_past zero hi lo (d ∷ ds) r = r.2
rises_past (suc n) hi lo (d ∷ []) r = tt
rises_past (suc n) hi lo (d ∷ e ∷ es) r = rises_past n hi (d + 1) (e ∷ es) r.2

head_least : (hi lo : ℕ) (ds : List ℕ) → 1 ≤ length ds → Rising hi lo ds → lo ≤ get_or (take 6 ds) 0 0
head_least hi lo [] h r = absurd (omega arith)
head_least hi lo (d ∷ ds) h r = r.0

-- the codes of one month, and more after them
module _ (issue m hi : ℕ) (more : List Code) (after : (a : Code) → a.month ≡ m → Heads issue (Next issue a) more) where
  abbrev Month : List ℕ → Type 1
  Month ds =
      (lo : ℕ) (ok : Code → Type 0) → Rising hi lo ds → ((x : Code) → x.month ≡ m → lo ≤ get_or x.days 0 0 → ok x) → Heads issue ok more →
      Heads issue ok (in_sixes m ds ++ more)

  month_step : (ds : List ℕ) → 1 ≤ length ds → Month (drop 6 ds) → Month ds
  month_step ds h f lo ok r t k =
      rw (six m ds h) (
        t (code m (take 6 ds)) refl (head_least hi lo ds h r),
        leads issue (code m (take 6 ds)) (in_sixes m (drop 6 ds) ++ more)
            (split (leb (length ds) 6)
            (λ e. rw (drop_of_length-le ds {i = 6} (leb-true _ _ e), none m) (after (code m (take 6 ds)) refl))
            (λ e.
            let l : 6 < length ds = leb-false _ _ e in
            let n : length (take 6 ds) ≡ 6 = omega (arith, length-take 6 ds) in
            f (last_of (take 6 ds) + 1) (Next issue (code m (take 6 ds))) (rises_past 5 hi lo ds r) (λ x i g. same (sym i) n (omega arith)) (after (code m (take 6 ds)) refl))),
      )

  month : (ds : List ℕ) → Month ds
  month = sixes Month (λ lo ok r t k. rw (none m) k) month_step

module _ (issue : ℕ) (lo : 1 ≤ issue) (hi : issue ≤ 12) (f : ℕ → List ℕ) (rises : (m : ℕ) → m ≤ 12 → Rising 32 1 (f m)) where
  -- the codes of the named months from a place on
  named : (n p : ℕ) (ok : Code → Type 0) → p + n ≡ 13 → 1 ≤ p → ((x : Code) → 1 ≤ x.month → p ≤ place issue x.month → ok x) → Heads issue ok (codes_from issue n p f)
  unfolding codes_from
  named zero p ok q l t = tt
  named (suc n) p ok q l t =
      month issue (month_at issue p) 32 (codes_from issue n (p + 1) f)
      (λ a e. let i = here a e in named n (p + 1) (Next issue a) (omega arith) (omega arith) (λ x g h. ahead i.0 g (omega arith)))
      (f (month_at issue p)) 1 ok (rises (month_at issue p) (month_most issue p))
      (λ x e g. let i = here x e in t x i.0 (omega arith))
      (named n (p + 1) ok (omega arith) (omega arith) (λ x g h. t x g (omega arith)))
    where
      here : (x : Code) → x.month ≡ month_at issue p → (1 ≤ x.month) × (place issue x.month ≡ p)
      here x e = let o = month_named issue p l in (omega arith, ap (place issue) e ∙ place_month issue lo hi p (omega arith))

in_any : (s : List ℕ) (m : ℕ) → Can s → m ≤ 12 → Rising 32 1 (days_in s m)
in_any s m c h = let l = last_most m h in wider (last_day m + 1) 32 1 (days_in s m) (omega arith) (in_month s m c h)

-- the run has codes of the named months alone, or of every month alone
parts : (issue : ℕ) (s : List ℕ) → Can s → (run_of issue s ≡ codes_from issue 12 1 (days_in s)) ⊎ (run_of issue s ≡ in_sixes 0 (days_in s 0) ++ [])
unfolding run_of codes_from
parts issue s c = go c.apart
  where
    both : in_sixes (month_at issue 0) (days_in s (month_at issue 0)) ≡ in_sixes 0 (days_in s 0)
    both = ap (λ (m : ℕ). in_sixes m (days_in s m)) (month_zero issue)

    go : (get_or s 0 0 ≡ 0) ⊎ ((m : ℕ) → m < 12 → get_or s (suc m) 0 ≡ 0) →
        (codes_from issue 13 0 (days_in s) ≡ codes_from issue 12 1 (days_in s)) ⊎ (codes_from issue 13 0 (days_in s) ≡ in_sixes 0 (days_in s 0) ++ [])
    go (inl e) = inl (ap (λ (xs : List Code). xs ++ codes_from issue 12 1 (days_in s)) (both ∙ ap (λ (x : ℕ). in_sixes 0 (since x 1)) e ∙ ap (in_sixes 0) since_zero ∙ none 0))
    go (inr f) =
        inr
        (ap₂ (λ (x y : List Code). x ++ y) both
        (codes_none issue 12 1 (days_in s) (λ j a. ap (λ (x : ℕ). since x 1) (zero_of (month_at issue j) (month_named issue j a) (month_most issue j)) ∙ since_zero)))
      where
        zero_of : (m : ℕ) → 1 ≤ m → m ≤ 12 → get_or s m 0 ≡ 0
        zero_of zero h l = absurd (omega arith)
        zero_of (suc m) h l = f m (omega arith)

heads_run : (issue : ℕ) (s : List ℕ) → 1 ≤ issue → issue ≤ 12 → Can s → Heads issue (λ x. Unit) (run_of issue s)
heads_run issue s lo hi c = go (parts issue s c)
  where
    go : (run_of issue s ≡ codes_from issue 12 1 (days_in s)) ⊎ (run_of issue s ≡ in_sixes 0 (days_in s 0) ++ []) → Heads issue (λ x. Unit) (run_of issue s)
    go (inl e) = rw e (named issue lo hi (days_in s) (λ m h. in_any s m c h) 12 1 (λ x. Unit) refl (omega arith) (λ x g h. tt))
    go (inr e) = rw e (month issue 0 32 [] (λ a e. tt) (days_in s 0) 1 (λ x. Unit) (in_any s 0 c (omega arith)) (λ x e g. tt) tt)

-- a set with a day in it has codes
some_code : (s : List ℕ) (cs : List Code) → set_of cs ≡ s → empty s ≡ false → (c : Code) × ((ds : List Code) × (cs ≡ c ∷ ds))
unfolding set_of days_at mask_of empty
some_code s [] e w = absurd (let q : empty s ≡ true = ap empty (sym e) in let z : ◌≡◌ {A = ℕ} 0 1 = cc in omega arith)
some_code s (c ∷ cs) e w = (c, (cs, refl))

pub allowed_run : (issue : ℕ) (s : List ℕ) → 1 ≤ issue → issue ≤ 12 → length s ≡ 13 → Can s → allowed issue (run_of issue s) ≡ true
allowed_run issue s lo hi l c = go (run_of issue s) (some_code s (run_of issue s) (names issue s lo hi l c) c.some) (heads_run issue s lo hi c)
  where
    go : (cs : List Code) → (x : Code) × ((ds : List Code) × (cs ≡ x ∷ ds)) → Heads issue (λ x. Unit) cs → allowed issue cs ≡ true
    go [] x h = absurd (let e = x.1.1 in let z : ◌≡◌ {A = ℕ} 0 1 = cc in omega arith)
    go (c ∷ cs) x h = h.1

-- ---- the set that an allowed run names can be written

mask_none : (m : ℕ) (cs : List Code) → days_at m cs ≡ [] → mask_of (days_at m cs) ≡ 0
unfolding mask_of
mask_none m cs e = ap mask_of e

-- after an every-month code only every-month codes follow
every : (issue : ℕ) (cs : List Code) (c : Code) (m : ℕ) → c.month ≡ 0 → allowed issue (c ∷ cs) ≡ true → days_at (suc m) (c ∷ cs) ≡ []
unfolding days_at
every issue [] c m e k = days_other (suc m) c [] (λ x. omega arith)
every issue (d ∷ cs) c m e k = let n = next_of issue c d cs k in go n.0 (λ z. every issue cs d m z n.1)
  where
    go : Next issue c d → (d.month ≡ 0 → days_at (suc m) (d ∷ cs) ≡ []) → days_at (suc m) (c ∷ d ∷ cs) ≡ []
    go (same a l r) f = days_other (suc m) c (d ∷ cs) (λ x. omega arith) ∙ f (sym a ∙ e)
    go (ahead x y r) f = absurd (omega arith)

pub can_name : (issue : ℕ) (c : Code) (cs : List Code) → 1 ≤ issue → issue ≤ 12 → Good c → Goods cs → allowed issue (c ∷ cs) ≡ true → Can (set_of (c ∷ cs))
can_name issue c cs lo hi g gs k =
    record {
      some = split (empty (set_of (c ∷ cs))) (λ e. absurd (let z = empty_at (set_of (c ∷ cs)) c.month e in omega (arith, its, set_at c.month (c ∷ cs) g.named))) (λ e. e);
      exist = λ m h. let b = mask_below (last_day m) (days_at m (c ∷ cs)) (rise issue cs c m g gs k) in omega (arith, set_at m (c ∷ cs) h);
      apart = split (eqb c.month 0)
          (λ e. inr (λ m h. set_at (suc m) (c ∷ cs) (omega arith) ∙ mask_none (suc m) (c ∷ cs) (every issue cs c m (eqb-true _ _ e) k)))
          (λ e.
          let z = eqb-false c.month 0 e in
          let p = place_named issue c.month (omega arith) in
          inl (set_at 0 (c ∷ cs) (omega arith) ∙ mask_none 0 (c ∷ cs) (ap (λ (m : ℕ). days_at m (c ∷ cs)) (sym (month_zero issue)) ∙ none_at issue lo hi cs c 0 (omega arith) k)));
    }
  where
    its : 1 ≤ mask_of (days_at c.month (c ∷ cs))
    its = let a = mask_some c.days g.some in omega (arith, ap mask_of (days_same c.month c cs refl) ∙ mask_append c.days (days_at c.month cs))

-- ---- how many codes a run has

-- six to a code, of all days of the months of n places from p on
most : ℕ → ℕ → ℕ → ℕ
most issue zero p = 0
most issue (suc n) p = (last_day (month_at issue p) + 5) / 6 + most issue n (p + 1)

most_in : (s : List ℕ) (m : ℕ) → Can s → m ≤ 12 → length (in_sixes m (days_in s m)) ≤ (last_day m + 5) / 6
most_in s m c h = let n = few (last_day m + 1) 1 (days_in s m) (omega arith) (in_month s m c h) in omega (arith, count m (days_in s m))

most_from : (issue n p : ℕ) (s : List ℕ) → Can s → length (codes_from issue n p (days_in s)) ≤ most issue n p
unfolding codes_from most
most_from issue zero p s c = omega arith
most_from issue (suc n) p s c =
    let a = most_in s (month_at issue p) c (month_most issue p) in
    let b = most_from issue n (p + 1) s c in
    omega (arith, length-append (in_sixes (month_at issue p) (days_in s (month_at issue p))) (codes_from issue n (p + 1) (days_in s)))

pub most_codes : (issue : ℕ) (s : List ℕ) → issue ≤ 12 → Can s → length (run_of issue s) ≤ run_most
unfolding most month_at last_day
most_codes issue s hi c = go (parts issue s c)
  where
    go : (run_of issue s ≡ codes_from issue 12 1 (days_in s)) ⊎ (run_of issue s ≡ in_sixes 0 (days_in s 0) ++ []) → length (run_of issue s) ≤ run_most
    go (inl e) =
        let a : most issue 12 1 ≤ run_most = leb-true _ _ (under (λ i. leb (most i 12 1) run_most) 13 refl (omega arith) issue (omega arith)) in
        let b : length (codes_from issue 12 1 (days_in s)) ≤ most issue 12 1 = most_from issue 12 1 s c in
        omega (arith, ap length e)
    go (inr e) = let a = most_in s 0 c (omega arith) in omega (arith, ap length e, length-append (in_sixes 0 (days_in s 0)) [])
