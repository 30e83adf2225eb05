-- The rules of dates by style, and what they say of the numbers of a date.
-- Assumes nothing.
use Prim.Native.Nat.{ℕ, zero, suc, ◌+◌, ◌-◌, ◌*◌, ◌≤◌}
use mathlib.Core.Path.{◌≡◌, refl, ◌∙◌, sym, subst}
use mathlib.Core.Bool.{Bool, true, false, cond, ◌&&◌}
use mathlib.Core.List.{List, [], ◌∷◌}
use native.Mathlib.Omega.{arith}
use borrow.Author.Tests.{eq-eqb, ne_eqb, le-leb, leb-true, eqb-true, eqb-false}
use lib.Dec.{leb, eqb}
use lib.ListN.{length, get_or, take}
use Rattle.number.specs.Number.{none, figures, value}
use Rattle.cells.proofs.Split.{split}
use Rattle.cells.proofs.Alike.{and_parts}
use Rattle.date.specs.Date.{leap, last_day, exists, eras, era_adds, day_number, in_force, date, in_style, in_its_era, is_date, two, western, era_date, held, read_date}
use Rattle.date.specs.Print.{in_western, in_era, print_date}
use Rattle.date.specs.declared.Date.{Date}
use Rattle.date.proofs.Digits.{first_value, four_value}
use Rattle.date.proofs.Eras.{Lies, within, found}

-- ---- reading, by the length
module _ (s : List ℕ) where
  pub read_none : figures s ≡ false → read_date s ≡ none
  unfolding read_date
  read_none h = rw h

  module _ (h : figures s ≡ true) where
    pub read_other : (length s ≡ 8 → ⊥) → (length s ≡ 7 → ⊥) → read_date s ≡ none
    unfolding read_date
    read_other e f = rw (h, ne_eqb (length s) 8 e, ne_eqb (length s) 7 f)

    pub read_eight : length s ≡ 8 → read_date s ≡ held (western s)
    unfolding read_date
    read_eight e = rw (h, eq-eqb (length s) 8 e)

    pub read_seven : length s ≡ 7 → read_date s ≡ cond (leb 1 (value 0 (take 1 s))) (held (era_date s)) none
    unfolding read_date
    read_seven e = rw (h, e)

    -- the first of seven digits is 0
    pub read_zero : length s ≡ 7 → get_or s 0 0 - 48 ≡ 0 → read_date s ≡ none
    read_zero e z = read_seven e ∙ rw (first_value s (omega arith), z)

    -- or it is the era
    pub read_era_lem : length s ≡ 7 → (get_or s 0 0 - 48 ≡ 0 → ⊥) →
        read_date s ≡ held (date (get_or s 0 0 - 48) (era_adds (get_or s 0 0 - 48) + two s 1) (two s 3) (two s 5))
    read_era_lem e z = read_seven e ∙ rw (first_value s (omega arith), le-leb 1 (get_or s 0 0 - 48) (omega arith))

    -- the year of eight digits as two numbers
    pub read_western_lem : length s ≡ 8 → read_date s ≡ held (date 0 (two s 0 * 100 + two s 2) (two s 4) (two s 6))
    read_western_lem e = read_eight e ∙ rw (four_value s (omega arith))

-- ---- writing, by the style
module _ (t : Date) where
  pub print_none : is_date t ≡ false → print_date t ≡ []
  unfolding print_date
  print_none h = rw h

  module _ (h : is_date t ≡ true) where
    pub print_eight : t.era ≡ 0 → print_date t ≡ in_western t
    unfolding print_date
    print_eight e = rw (h, eq-eqb t.era 0 e)

    pub print_seven : (t.era ≡ 0 → ⊥) → print_date t ≡ in_era t
    unfolding print_date
    print_seven e = rw (h, ne_eqb t.era 0 e)

-- ---- the numbers of a date
-- in era style the era is that in force
pub in_era_lem : (t : Date) → (t.era ≡ 0 → ⊥) → in_its_era t ≡ eqb t.era (in_force t.year t.month t.day)
unfolding in_its_era
in_era_lem t e = rw (ne_eqb t.era 0 e)

-- an era that is none adds nothing
pub adds_none : (e : ℕ) → (e ≡ 1 → ⊥) → (e ≡ 2 → ⊥) → (e ≡ 3 → ⊥) → (e ≡ 4 → ⊥) → (e ≡ 5 → ⊥) → era_adds e ≡ 0
unfolding era_adds
adds_none e a b c d f = rw (ne_eqb e 1 a, ne_eqb e 2 b, ne_eqb e 3 c, ne_eqb e 4 d, ne_eqb e 5 f)

-- none of the days is above a number
most : List ℕ → ℕ → Bool
most [] k = true
most (d ∷ ds) k = leb d k && most ds k

most_at : (ds : List ℕ) (k m : ℕ) → most ds k ≡ true → get_or ds m 0 ≤ k
unfolding most
most_at [] k m h = omega arith
most_at (d ∷ ds) k zero h = leb-true d k (and_parts _ _ h).0
most_at (d ∷ ds) k (suc m) h = most_at ds k m (and_parts (leb d k) _ h).1

last_most : (y m : ℕ) → last_day y m ≤ 31
unfolding last_day most
last_most y m =
    let t : List ℕ = 0 ∷ 31 ∷ 28 ∷ 31 ∷ 30 ∷ 31 ∷ 30 ∷ 31 ∷ 31 ∷ 30 ∷ 31 ∷ 30 ∷ 31 ∷ [] in
    split (eqb m 2 && leap y) (λ e. rw e (omega arith)) (λ e. rw e (most_at t 31 m refl))

-- the month and the day of a day that exists,
pub record Day (m d : ℕ) : Type 0 where
  pub months : 1 ≤ m
  pub month : m ≤ 12
  pub days : 1 ≤ d
  pub day : d ≤ 31

pub a_day : (y m d : ℕ) → exists y m d ≡ true → Day m d
unfolding exists
a_day y m d h =
    let a = and_parts (leb 1 m) _ h in
    let b = and_parts (leb m 12) _ a.1 in
    let c = and_parts (leb 1 d) _ b.1 in
    let l : d ≤ last_day y m = leb-true d _ c.1 in
    record { months = leb-true 1 m a.0; month = leb-true m 12 b.0; days = leb-true 1 d c.0; day = omega (arith, last_most y m) }

-- the numbers of a date, in either style,
pub record Numbers (t : Date) : Type 0 where
  pub era : t.era ≤ 5
  pub from : 1868 ≤ t.year
  pub upto : t.year ≤ 2099
  pub months : 1 ≤ t.month
  pub month : t.month ≤ 12
  pub days : 1 ≤ t.day
  pub day : t.day ≤ 31

-- and in era style its year in its era.
pub record EraYear (t : Date) : Type 0 where
  pub most : t.era ≤ 5
  pub from : era_adds t.era + 1 ≤ t.year
  pub upto : t.year ≤ era_adds t.era + 99

module _ (t : Date) (h : is_date t ≡ true) where
  in_style_lem : in_style t ≡ true
  unfolding is_date
  in_style_lem = (and_parts (in_style t) _ h).0

  pub its_day : exists t.year t.month t.day ≡ true
  unfolding is_date
  its_day = (and_parts (exists t.year t.month t.day) _ (and_parts (in_style t) _ h).1).0

  in_its_era_lem : in_its_era t ≡ true
  unfolding is_date
  in_its_era_lem = (and_parts (exists t.year t.month t.day) _ (and_parts (in_style t) _ h).1).1

  -- A date in era style lies in its era.
  pub lies : (t.era ≡ 0 → ⊥) → Lies (day_number t.year t.month t.day) t.era eras
  lies e =
      let k : t.era ≡ in_force t.year t.month t.day = eqb-true _ _ (sym (in_era_lem t e) ∙ in_its_era_lem) in
      found t.year t.month t.day (λ z. absurd (e (k ∙ z)))
      (subst (λ (x : ℕ). Lies (day_number t.year t.month t.day) x eras) (sym k))

  pub era_year : (t.era ≡ 0 → ⊥) → EraYear t
  unfolding in_style
  era_year e =
      let a = and_parts (leb t.era 5) _ (simp (ne_eqb t.era 0 e) at in_style_lem) in
      let b = and_parts (leb (era_adds t.era + 1) t.year) _ a.1 in
      record { most = leb-true t.era 5 a.0; from = leb-true _ t.year b.0; upto = leb-true t.year _ b.1 }

  pub numbers : Numbers t
  unfolding in_style
  numbers =
      let n = a_day t.year t.month t.day its_day in
      let of : t.era ≤ 5 → 1868 ≤ t.year → t.year ≤ 2099 → Numbers t =
      λ e l u. record { era = e; from = l; upto = u; months = n.months; month = n.month; days = n.days; day = n.day } in
      split (eqb t.era 0)
      (λ e. let z : t.era ≡ 0 = eqb-true t.era 0 e in
      let a = and_parts (leb 1868 t.year) _ (simp e at in_style_lem) in
      of (omega arith) (leb-true 1868 t.year a.0) (leb-true t.year 2099 a.1))
      (λ e. let z = eqb-false t.era 0 e in
      let s = within (day_number t.year t.month t.day) t.era (lies z) in
      of (era_year z).most (omega (arith, s.from, n.month, n.day)) (omega (arith, s.upto)))
