-- Records that hold the same once every date code is blanked, and that note the same days for each RP, hold the same.
-- Assumes nothing.
use Prim.Native.Nat.{ℕ}
use mathlib.Core.Path.{◌≡◌, refl, ◌∙◌, sym, ap, ap₂, subst}
use mathlib.Core.Bool.{true}
use mathlib.Core.List.{List, [], ◌∷◌, ◌++◌, map, append_assoc}
use native.Mathlib.Omega.{arith}
use lib.Dec.{eqb}
use Rattle.cells.specs.Text.{among}
use Rattle.cells.proofs.Split.{split}
use Rattle.supplement.specs.declared.Supplement.{Supplement}
use Rattle.days.specs.Run.{code_of, set_of}
use Rattle.held.specs.Held.{Value, none, number, amount, text, day, usage, supplement, Held}
use Rattle.demands.specs.Blank.{date_in, dates_in, as_it_is, blank_value, Blanked, blank, dates_upto, dates_noted, days_noted}
use Rattle.demands.proofs.Dates.{same_dates}
use Rattle.demands.proofs.Walk.{month_after, EachRp}

-- ---- value by value
-- a value is a date code, or it is not
data Kind (v : Value) : Type 0 where
  dated : (x : Supplement) → v ≡ supplement x → date_in v ≡ x ∷ [] → Kind v
  other : date_in v ≡ [] → Kind v

kind : (v : Value) → Kind v
kind none = other refl
kind (number n) = other refl
kind (amount n) = other refl
kind (text b) = other refl
kind (day t) = other refl
kind (usage i) = other refl
kind (supplement x) = split (among "D" x.letter) (λ e. dated x refl (rw e)) (λ e. other (rw e))

same_value : (v w : Value) (xs ys : List Supplement) → Kind v → Kind w → blank_value v ≡ blank_value w → date_in v ++ xs ≡ date_in w ++ ys → (v ≡ w) × (xs ≡ ys)
same_value v w xs ys (dated x p d) (dated y q e) b h =
    let k : x ∷ xs ≡ y ∷ ys = rw (d, e) at h in
    let i : x ≡ y = cc in
    (p ∙ ap supplement i ∙ sym q, cc)
same_value v w xs ys (dated x p d) (other e) b h = absurd (let k = rw (d, e) at b in let z : ◌≡◌ {A = ℕ} 0 1 = cc in omega arith)
same_value v w xs ys (other d) (dated y q e) b h = absurd (let k = rw (d, e) at b in let z : ◌≡◌ {A = ℕ} 0 1 = cc in omega arith)
same_value v w xs ys (other d) (other e) b h =
    let k : as_it_is v ≡ as_it_is w = rw (d, e) at b in
    (cc, rw (d, e) at h)

same_values : (vs ws : List Value) (xs ys : List Supplement) → map blank_value vs ≡ map blank_value ws → dates_in vs ++ xs ≡ dates_in ws ++ ys → (vs ≡ ws) × (xs ≡ ys)
same_values [] [] xs ys b h = (refl, h)
same_values [] (w ∷ ws) xs ys b h = absurd (let z : ◌≡◌ {A = ℕ} 0 1 = cc in omega arith)
same_values (v ∷ vs) [] xs ys b h = absurd (let z : ◌≡◌ {A = ℕ} 0 1 = cc in omega arith)
same_values (v ∷ vs) (w ∷ ws) xs ys b h =
    let a : blank_value v ≡ blank_value w = cc in
    let m : map blank_value vs ≡ map blank_value ws = cc in
    let k : date_in v ++ (dates_in vs ++ xs) ≡ date_in w ++ (dates_in ws ++ ys) =
    sym (append_assoc (date_in v) (dates_in vs) xs) ∙ h ∙ append_assoc (date_in w) (dates_in ws) ys in
    let p = same_value v w (dates_in vs ++ xs) (dates_in ws ++ ys) (kind v) (kind w) a k in
    let q = same_values vs ws xs ys m p.1 in
    (ap₂ (λ (u : Value) (us : List Value). u ∷ us) p.0 q.0, q.1)

-- ---- record by record
pub same_held : (m : ℕ) (hs ks : List Held) → EachRp m hs → EachRp m ks → map blank hs ≡ map blank ks → dates_upto hs ≡ dates_upto ks →
    days_noted hs ≡ days_noted ks → hs ≡ ks
unfolding dates_upto dates_noted days_noted
same_held m [] [] n o b d s = refl
same_held m [] (k ∷ ks) n o b d s = absurd (let z : ◌≡◌ {A = ℕ} 0 1 = cc in omega arith)
same_held m (h ∷ hs) [] n o b d s = absurd (let z : ◌≡◌ {A = ℕ} 0 1 = cc in omega arith)
same_held m (h ∷ hs) (k ∷ ks) n o b d s =
    let g : blank h ≡ blank k = cc in
    let e : h.number ≡ k.number = ap (λ (x : Blanked). x.number) g in
    let v : map blank_value h.values ≡ map blank_value k.values = ap (λ (x : Blanked). x.values) g in
    let t : map blank hs ≡ map blank ks = cc in
    let next : (h.values ≡ k.values) × (dates_upto hs ≡ dates_upto ks) → days_noted hs ≡ days_noted ks → h ∷ hs ≡ k ∷ ks =
    λ p y. ap₂ (λ (a : Held) (others : List Held). a ∷ others) (λ i. record { number = e i; values = p.0 i })
    (same_held (month_after m h.values) hs ks n.1 (subst (λ (vs : List Value). EachRp (month_after m vs) ks) (sym p.0) o.1) t p.1 y) in
    split (eqb h.number 101)
    (λ a. let c : eqb k.number 101 ≡ true = ap (λ (x : ℕ). eqb x 101) (sym e) ∙ a in
    let u : set_of (map code_of (dates_in h.values ++ dates_upto hs)) ∷ days_noted hs ≡ set_of (map code_of (dates_in k.values ++ dates_upto ks)) ∷ days_noted ks = simp (a, c) at s in
    let w : set_of (map code_of (dates_in h.values ++ dates_upto hs)) ≡ set_of (map code_of (dates_in k.values ++ dates_upto ks)) = cc in
    let y : days_noted hs ≡ days_noted ks = cc in
    next (same_values h.values k.values (dates_upto hs) (dates_upto ks) v (same_dates m _ _ (n.0 a) (o.0 c) w)) y)
    (λ a. let c = ap (λ (x : ℕ). eqb x 101) (sym e) ∙ a in
    next (same_values h.values k.values (dates_upto hs) (dates_upto ks) v (simp (a, c) at d)) (simp (a, c) at s))
