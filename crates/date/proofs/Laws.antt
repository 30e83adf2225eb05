-- What holds of reading, making and writing dates, over the rules alone; and dates worked by hand.
-- Each contract gives its answer by an equation, so that two answers that meet it are equal.
-- Assumes nothing.
use Prim.Native.Nat.{ℕ, zero, suc, ◌+◌, ◌-◌, ◌*◌, ◌/◌, ◌%◌, ◌<◌, ◌≤◌}
use Prim.Native.Char.{code}
use Prim.Native.String.{String, [] as nil, ◌∷◌ as cons}
use mathlib.Core.Path.{◌≡◌, refl, ◌∙◌, sym, ap, subst}
use mathlib.Core.Bool.{true, ◌||◌}
use mathlib.Core.List.{List, [], ◌∷◌, map}
use mathlib.Core.Logic.{◌↔◌, ◌⊎◌, inl, inr}
use native.Mathlib.Omega.{arith}
use borrow.Author.Tests.{le-leb, leb-true, eq-eqb, eqb-true, eqb-false}
use lib.Dec.{leb, eqb}
use lib.ListN.{length, get_or, take, drop}
use Rattle.number.specs.Number.{none, figure, figures, value}
use Rattle.cells.proofs.Split.{split}
use Rattle.number.proofs.Sizes.{figures_parts}
use Rattle.cells.specs.Test.{Answer, took}
use Rattle.date.specs.Date.{said, leap, last_day, exists, eras, era_adds, day_number, in_force, date, in_style, in_its_era, is_date, western, era_date, held, read_date, make_western, make_era, make_date}
use Rattle.date.specs.Print.{in_western, in_era, print_date}
use Rattle.date.specs.declared.Date.{Date}
use Rattle.date.proofs.Digits.{figure_last}
use Rattle.date.proofs.Eras.{Lies, Spanned, numbered, styled, only, some}
use Rattle.date.proofs.Style.{read_none, read_other, read_eight, read_seven, print_eight, print_seven, a_day, its_day, lies, numbers, era_year}
use Rattle.std.specs.Prelude.{Err, Ok, Result}
use Rattle.cells.specs.declared.Fault.{Fault}

-- Two answers of which document 01's number and values are the same are equal.
pub one_made : (a b : Result Date Fault) → said a ≡ said b → a ≡ b
one_made (Ok t) (Ok u) e = cc
one_made (Ok t) (Err g) e = cc
one_made (Err f) (Ok u) e = cc
one_made (Err f) (Err g) e =
    let a : f.number ≡ g.number = cc in
    let b : f.place ≡ g.place = cc in
    λ i. Err (record { number = a i; place = b i })

never : {A : Type 0} {t : Date} → none ≡ took t → A
never h = absurd (let z : ◌≡◌ {A = ℕ} 0 1 = cc in omega arith)

kept : (t u : Date) → held t ≡ took u → (is_date t ≡ true) × (t ≡ u)
kept t u h = split (is_date t) (λ e. let k : took t ≡ took u = simp e at h in (e, cc)) (λ e. never (simp e at h))

-- ---- digits, read and written again
-- a byte that is a digit
abbrev Digit : ℕ → Type 0
Digit c = (48 ≤ c) × (c ≤ 57)

-- the digits of the number of two digits, and of four
pair_back : (a b : ℕ) → Digit a → Digit b → (n : ℕ) → n ≡ (0 + (a - 48)) * 10 + (b - 48) → (48 + n / 10 % 10 ≡ a) × (48 + n % 10 ≡ b)
pair_back a b ha hb n e = omega arith

four_back : (a b c d : ℕ) → Digit a → Digit b → Digit c → Digit d → (n : ℕ) →
    n ≡ (((0 + (a - 48)) * 10 + (b - 48)) * 10 + (c - 48)) * 10 + (d - 48) → (48 + n / 1000 % 10 ≡ a) × (48 + n / 100 % 10 ≡ b) × (48 + n / 10 % 10 ≡ c) × (48 + n % 10 ≡ d)
four_back a b c d ha hb hc hd n e = omega arith

-- the characters of a list, so many
spell : ℕ → List ℕ → List ℕ
spell zero s = []
spell (suc n) s = get_or s 0 0 ∷ spell n (drop 1 s)

spelled : (n : ℕ) (s : List ℕ) → length s ≡ n → s ≡ spell n s
unfolding spell
spelled zero [] l = refl
spelled zero (c ∷ s) l = absurd (omega arith)
spelled (suc n) [] l = absurd (omega arith)
spelled (suc n) (c ∷ s) l = ap (λ (t : List ℕ). c ∷ t) (spelled n s (omega arith))

western_digits : (a b c d e f g i : ℕ) → figures (a ∷ b ∷ c ∷ d ∷ e ∷ f ∷ g ∷ i ∷ []) ≡ true →
    in_western (western (a ∷ b ∷ c ∷ d ∷ e ∷ f ∷ g ∷ i ∷ [])) ≡ a ∷ b ∷ c ∷ d ∷ e ∷ f ∷ g ∷ i ∷ []
unfolding value
western_digits a b c d e f g i h =
    let ha = figures_parts a _ h in
    let hb = figures_parts b _ ha.2 in
    let hc = figures_parts c _ hb.2 in
    let hd = figures_parts d _ hc.2 in
    let he = figures_parts e _ hd.2 in
    let hf = figures_parts f _ he.2 in
    let hg = figures_parts g _ hf.2 in
    let hi = figures_parts i [] hg.2 in
    let y = four_back a b c d (ha.0, ha.1) (hb.0, hb.1) (hc.0, hc.1) (hd.0, hd.1) _ refl in
    let m = pair_back e f (he.0, he.1) (hf.0, hf.1) _ refl in
    let x = pair_back g i (hg.0, hg.1) (hi.0, hi.1) _ refl in
    cc

era_digits : (a b c d e f g : ℕ) → figures (a ∷ b ∷ c ∷ d ∷ e ∷ f ∷ g ∷ []) ≡ true →
    in_era (era_date (a ∷ b ∷ c ∷ d ∷ e ∷ f ∷ g ∷ [])) ≡ a ∷ b ∷ c ∷ d ∷ e ∷ f ∷ g ∷ []
unfolding value
era_digits a b c d e f g h =
    let ha = figures_parts a _ h in
    let hb = figures_parts b _ ha.2 in
    let hc = figures_parts c _ hb.2 in
    let hd = figures_parts d _ hc.2 in
    let he = figures_parts e _ hd.2 in
    let hf = figures_parts f _ he.2 in
    let hg = figures_parts g [] hf.2 in
    let z : 48 + (0 + (a - 48)) % 10 ≡ a = omega arith in
    let u = era_adds (0 + (a - 48)) in
    let k : u + ((0 + (b - 48)) * 10 + (c - 48)) - u ≡ (0 + (b - 48)) * 10 + (c - 48) = omega arith in
    let y = pair_back b c (hb.0, hb.1) (hc.0, hc.1) _ k in
    let m = pair_back d e (hd.0, hd.1) (he.0, he.1) _ refl in
    let x = pair_back f g (hf.0, hf.1) (hg.0, hg.1) _ refl in
    cc

western_back : (s : List ℕ) → figures s ≡ true → length s ≡ 8 → in_western (western s) ≡ s
unfolding spell
western_back s h l =
    subst (λ (t : List ℕ). figures t ≡ true → in_western (western t) ≡ t) (sym (spelled 8 s l)) (western_digits _ _ _ _ _ _ _ _) h

era_back : (s : List ℕ) → figures s ≡ true → length s ≡ 7 → in_era (era_date s) ≡ s
unfolding spell
era_back s h l =
    subst (λ (t : List ℕ). figures t ≡ true → in_era (era_date t) ≡ t) (sym (spelled 7 s l)) (era_digits _ _ _ _ _ _ _) h

-- ---- the styles of a field that reads as a date
styles : {P : Type 0} (s : List ℕ) (t : Date) → read_date s ≡ took t →
    (figures s ≡ true → length s ≡ 8 → held (western s) ≡ took t → P) →
    (figures s ≡ true → length s ≡ 7 → 1 ≤ value 0 (take 1 s) → held (era_date s) ≡ took t → P) → P
styles {P} s t h west inera =
    split (figures s)
    (λ f. split (eqb (length s) 8)
    (λ e. let l = eqb-true (length s) 8 e in west f l (sym (read_eight s f l) ∙ h))
    (λ e. split (eqb (length s) 7)
    (λ g. let l = eqb-true (length s) 7 g in
    let k = sym (read_seven s f l) ∙ h in
    split (leb 1 (value 0 (take 1 s))) (λ o. inera f l (leb-true _ _ o) (simp o at k)) (λ o. never (simp o at k)))
    (λ g. never (sym (read_other s f (eqb-false _ _ e) (eqb-false _ _ g)) ∙ h))))
    (λ f. never (sym (read_none s f) ∙ h))

-- What is read is a date,
pub is_date_lem : (s : List ℕ) (t : Date) → read_date s ≡ took t → is_date t ≡ true
is_date_lem s t h =
    styles s t h (λ f l k. let p = kept (western s) t k in ap is_date (sym p.1) ∙ p.0)
    (λ f l o k. let p = kept (era_date s) t k in ap is_date (sym p.1) ∙ p.0)

-- and a field that reads as a date is what the date is written as.
pub back : (s : List ℕ) (t : Date) → read_date s ≡ took t → print_date t ≡ s
back s t h =
    styles s t h
    (λ f l k. let p = kept (western s) t k in ap print_date (sym p.1) ∙ print_eight (western s) p.0 refl ∙ western_back s f l)
    (λ f l o k. let p = kept (era_date s) t k in ap print_date (sym p.1) ∙ print_seven (era_date s) p.0 (omega arith) ∙ era_back s f l)

-- So what a date that some field reads as is written as reads as the date,
pub again : (s : List ℕ) (t : Date) → read_date s ≡ took t → read_date (print_date t) ≡ took t
again s t h = ap read_date (back s t h) ∙ h

-- and two fields that read as one date are one field.
pub one_date : (s u : List ℕ) (t : Date) → read_date s ≡ took t → read_date u ≡ took t → s ≡ u
one_date s u t h k = sym (back s t h) ∙ back u t k

-- ---- what is a date can be written
four_again : (n : ℕ) → n ≤ 9999 → ((((0 + n / 1000 % 10) * 10 + n / 100 % 10) * 10 + n / 10 % 10) * 10 + n % 10) ≡ n
four_again n h =
    let c : n / 1000 % 10 ≡ n / 1000 = omega arith in
    let d : n / 100 ≡ n / 1000 * 10 + n / 100 % 10 = omega arith in
    let e : n / 10 ≡ n / 100 * 10 + n / 10 % 10 = omega arith in
    let f : n ≡ n / 10 * 10 + n % 10 = omega arith in
    omega arith

western_again : (t : Date) → is_date t ≡ true → t.era ≡ 0 → read_date (in_western t) ≡ took t
unfolding figures value
western_again t h e =
    let n = numbers t h in
    let k : figures (in_western t) ≡ true = simp figure_last in
    let p : (western (in_western t)).year ≡ t.year = omega (arith, four_again t.year (omega arith)) in
    let q : (western (in_western t)).month ≡ t.month = omega arith in
    let r : (western (in_western t)).day ≡ t.day = omega arith in
    let w : western (in_western t) ≡ t = λ i. record { era = sym e i; year = p i; month = q i; day = r i } in
    read_eight (in_western t) k refl ∙ ap held w ∙ rw h

era_again : (t : Date) → is_date t ≡ true → (t.era ≡ 0 → ⊥) → read_date (in_era t) ≡ took t
unfolding figures value
era_again t h e =
    let n = numbers t h in
    let y = era_year t h e in
    let k : figures (in_era t) ≡ true = simp figure_last in
    let o : (era_date (in_era t)).era ≡ t.era = omega arith in
    let a : era_adds (era_date (in_era t)).era ≡ era_adds t.era = ap era_adds o in
    let p : (era_date (in_era t)).year ≡ t.year = omega arith in
    let q : (era_date (in_era t)).month ≡ t.month = omega arith in
    let r : (era_date (in_era t)).day ≡ t.day = omega arith in
    let w : era_date (in_era t) ≡ t = λ i. record { era = o i; year = p i; month = q i; day = r i } in
    read_seven (in_era t) k refl ∙ rw (le-leb 1 (era_date (in_era t)).era (omega arith)) (ap held w ∙ rw h)

-- Every date is written as a field that reads as the date.
pub written : (t : Date) → is_date t ≡ true → read_date (print_date t) ≡ took t
written t h =
    split (eqb t.era 0)
    (λ e. let z = eqb-true t.era 0 e in ap read_date (print_eight t h z) ∙ western_again t h z)
    (λ e. let z = eqb-false t.era 0 e in ap read_date (print_seven t h z) ∙ era_again t h z)

-- ---- days in their order
-- Of two days that exist, the earlier, by its year, else its month, else its day, has the lower number YYYYMMDD.
pub in_order : (y m d v n e : ℕ) → exists y m d ≡ true → (y < v) ⊎ ((y ≡ v) × ((m < n) ⊎ ((m ≡ n) × (d < e)))) → day_number y m d < day_number v n e
in_order y m d v n e x (inl h) = let a = a_day y m d x in omega arith
in_order y m d v n e x (inr (z, inl h)) = let a = a_day y m d x in omega arith
in_order y m d v n e x (inr (z, inr (w, h))) = omega arith

-- ---- making
its_own : (k : ℕ) → eqb k 0 || eqb k k ≡ true
its_own k = split (eqb k 0) (λ a. rw a) (λ a. rw (a, eq-eqb k k refl))

module _ (y m d : ℕ) where
  -- the days on which a date can be made
  abbrev Can : Type 0
  Can = (1868 ≤ y) × (y ≤ 2099) × (exists y m d ≡ true)

  -- they are days of the eras,
  can_span : Can → Spanned (day_number y m d)
  can_span h = let n = a_day y m d h.2 in record { from = omega (arith, h.0, n.months, n.days); upto = omega (arith, h.1, n.month, n.day) }

  is_can : (e : ℕ) → is_date (date e y m d) ≡ true → Can
  is_can e h = let n = numbers (date e y m d) h in (n.from, n.upto, its_day (date e y m d) h)

  -- and they, and no others, are dates in western style
  pub western_date : (is_date (date 0 y m d) ≡ true) ↔ Can
  unfolding is_date in_style in_its_era
  western_date = (is_can 0, λ h. rw (le-leb 1868 y h.0, le-leb y 2099 h.1, h.2))

  -- and in the era in force.
  pub era_date_lem : (is_date (date (in_force y m d) y m d) ≡ true) ↔ Can
  unfolding is_date in_its_era
  era_date_lem = (
    is_can (in_force y m d),
    λ h. let n = a_day y m d h.2 in
        rw (styled (in_force y m d) y m d n.month n.day (some y m d (can_span h)), h.2) (its_own (in_force y m d)),
  )

-- Every day from 1868-01-01 to 2099-12-31 lies in exactly one era, and that is the one which making takes.
pub record OneEra (y m d : ℕ) : Type 0 where
  pub lies : Lies (day_number y m d) (in_force y m d) eras
  pub only : (k : ℕ) → Lies (day_number y m d) k eras → k ≡ in_force y m d
  pub made : make_era y m d ≡ took (date (in_force y m d) y m d)

pub one_era : (y m d : ℕ) → 1868 ≤ y → y ≤ 2099 → exists y m d ≡ true → OneEra y m d
unfolding make_era
one_era y m d l u x =
    record { lies = some y m d (can_span y m d (l, u, x)); only = only y m d; made = rw ((era_date_lem y m d).1 (l, u, x)) }

-- What is read in era style is what is made of its day: no other seven characters read as that day.
pub era_made : (s : List ℕ) (t : Date) → read_date s ≡ took t → (t.era ≡ 0 → ⊥) → make_era t.year t.month t.day ≡ took t
unfolding make_era
era_made s t h e =
    let i = is_date_lem s t h in
    let k : t.era ≡ in_force t.year t.month t.day = only t.year t.month t.day t.era (lies t i e) in
    let w : date (in_force t.year t.month t.day) t.year t.month t.day ≡ t =
    λ j. record { era = sym k j; year = t.year; month = t.month; day = t.day } in
    ap held w ∙ rw i

-- What a caller makes, in western style, in era style, or with no style named, is written as a field that reads as the date.
module _ (y m d : ℕ) (t : Date) where
  pub made_western : make_western y m d ≡ took t → read_date (print_date t) ≡ took t
  unfolding make_western
  made_western h = let k = kept _ t h in written t (ap is_date (sym k.1) ∙ k.0)

  pub made_era : make_era y m d ≡ took t → read_date (print_date t) ≡ took t
  unfolding make_era
  made_era h = let k = kept _ t h in written t (ap is_date (sym k.1) ∙ k.0)

  -- A date in era style has an era, and so seven characters.
  pub era_seven : make_era y m d ≡ took t → length (print_date t) ≡ 7
  unfolding make_era
  era_seven h =
      let k = kept _ t h in
      let z : t.era ≡ in_force y m d = ap (λ (u : Date). u.era) (sym k.1) in
      let n : 1 ≤ in_force y m d = numbered (day_number y m d) (in_force y m d) (some y m d (can_span y m d ((era_date_lem y m d).0 k.0))) in
      ap length (print_seven t (ap is_date (sym k.1) ∙ k.0) (omega arith))

  pub made : make_date y m d ≡ took t → read_date (print_date t) ≡ took t
  unfolding make_date
  made h = made_era h

-- Fields, and what is read from them: nothing, or the style, the year, the month and the day.
pub record Row : Type 0 where
  pub field : String
  pub reads : Answer Date

abbrev row : String → Answer Date → Row
row s r = record { field = s; reads = r }

abbrev day : ℕ → ℕ → ℕ → ℕ → Answer Date
day e y m d = took (date e y m d)

abbrev bytes : String → List ℕ
bytes nil = []
bytes (cons x t) = code x ∷ bytes t

-- "A Heisei year 40 must no longer pass." The days on the borders of the eras, and fields that are no date.
abbrev pub fields : List Row
fields =
    row "20180702" (day 0 2018 7 2) ∷
    row "18680101" (day 0 1868 1 1) ∷
    row "20991231" (day 0 2099 12 31) ∷
    row "20000229" (day 0 2000 2 29) ∷
    row "4300702" (day 4 2018 7 2) ∷
    row "1010101" (day 1 1868 1 1) ∷
    row "1450729" (day 1 1912 7 29) ∷
    row "1450730" none ∷
    row "2010729" none ∷
    row "2010730" (day 2 1912 7 30) ∷
    row "2151224" (day 2 1926 12 24) ∷
    row "2151225" none ∷
    row "3011224" none ∷
    row "3011225" (day 3 1926 12 25) ∷
    row "3640107" (day 3 1989 1 7) ∷
    row "3640108" none ∷
    row "4010107" none ∷
    row "4010108" (day 4 1989 1 8) ∷
    row "4310430" (day 4 2019 4 30) ∷
    row "4310501" none ∷
    row "5010430" none ∷
    row "5010501" (day 5 2019 5 1) ∷
    row "5811231" (day 5 2099 12 31) ∷
    row "5820101" none ∷
    row "4400101" none ∷
    row "4991231" none ∷
    row "5010229" none ∷
    row "5020229" (day 5 2020 2 29) ∷
    row "5000501" none ∷
    row "6010101" none ∷
    row "19000229" none ∷
    row "18671231" none ∷
    row "21000101" none ∷
    row "20181232" none ∷
    row "20181301" none ∷
    row "20180700" none ∷
    row "0010101" none ∷
    row "1000101" none ∷
    row "2018072" none ∷
    row "2018 702" none ∷
    row "" none ∷
    []

pub fields_right : map (λ r. read_date (bytes r.field)) fields ≡ map (λ r. r.reads) fields
unfolding read_date is_date in_style in_its_era in_force exists last_day leap era_adds figures figure value
fields_right = refl

-- "A caller's era-style date now takes the era in force on that day": the days on the borders, and what they are made as.
pub record Border : Type 0 where
  pub year : ℕ
  pub month : ℕ
  pub day : ℕ
  pub makes : Answer Date

abbrev border : ℕ → ℕ → ℕ → Answer Date → Border
border y m d r = record { year = y; month = m; day = d; makes = r }

abbrev pub borders : List Border
borders =
    border 1867 12 31 none ∷
    border 1868 1 1 (day 1 1868 1 1) ∷
    border 1912 7 29 (day 1 1912 7 29) ∷
    border 1912 7 30 (day 2 1912 7 30) ∷
    border 1926 12 24 (day 2 1926 12 24) ∷
    border 1926 12 25 (day 3 1926 12 25) ∷
    border 1989 1 7 (day 3 1989 1 7) ∷
    border 1989 1 8 (day 4 1989 1 8) ∷
    border 2019 4 30 (day 4 2019 4 30) ∷
    border 2019 5 1 (day 5 2019 5 1) ∷
    border 2090 1 1 (day 5 2090 1 1) ∷
    border 2099 12 31 (day 5 2099 12 31) ∷
    border 2100 1 1 none ∷
    border 2019 2 29 none ∷
    []

pub borders_right : map (λ b. make_date b.year b.month b.day) borders ≡ map (λ b. b.makes) borders
unfolding make_date make_era is_date in_style in_its_era in_force exists last_day leap era_adds
borders_right = refl
