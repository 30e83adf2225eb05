-- The crate's theorems: every beginning of an RP's list is one, and what is kept of a list decides what may stand after it; and lists
-- worked by hand.
-- Assumes nothing.
use Prim.Native.Nat.{ℕ}
use Prim.Native.String.{String}
use mathlib.Core.Path.{◌≡◌, refl, sym, ap, ◌∙◌}
use mathlib.Core.Bool.{Bool, true, false, cond, ◌&&◌, ◌||◌, true≢false}
use mathlib.Core.List.{List, [], ◌∷◌, ◌++◌, map}
use borrow.Author.Tests.{eqb-true, eq-eqb, ne_eqb}
use lib.Dec.{eqb}
use Rattle.cells.specs.Text.{among, at}
use Rattle.cells.proofs.Split.{split}
use Rattle.cells.proofs.Alike.{and_left, and_right}
use Rattle.supplement.specs.Supplement.{saying, no_week, no_days}
use Rattle.supplement.specs.declared.Supplement.{Supplement}
use Rattle.days.specs.Run.{upto0, code_of, distance, last_of, follows, allowed}
use Rattle.schedule.specs.Schedule.{dates, date_run, single, list}
use Rattle.schedule.specs.Kept.{keep_of, kept, may_join}
use Rattle.schedule.proofs.Chain.{linked, one_date, more_dates, kept_follows}

clash : {P : Type 0} → false ≡ true → P
clash h = absurd (true≢false (sym h))

-- An RP that has no supplement yet has an allowed list.
pub nothing_kept : (issue : ℕ) → list issue [] ≡ true
unfolding list
nothing_kept issue = refl

-- What is kept of a list is what is kept of its last supplement.
pub keeps : (xs : List Supplement) (x : Supplement) → kept (xs ++ (x ∷ [])) ≡ keep_of x
unfolding kept
keeps [] x = refl
keeps (a ∷ []) x = refl
keeps (a ∷ b ∷ xs) x = keeps (b ∷ xs) x

-- ---- beginnings
both : {a b : Bool} → a ≡ true → b ≡ true → a && b ≡ true
both p q = simp (p, q)

module _ (issue : ℕ) where
  fewer_dates : (a : Supplement) (xs ys : List Supplement) → date_run issue (a ∷ xs ++ ys) ≡ true → date_run issue (a ∷ xs) ≡ true
  fewer_dates a [] [] h = h
  fewer_dates a [] (y ∷ ys) h =
      let l : linked issue a y ≡ true = and_left (linked issue a y) _ (sym (more_dates issue a y ys) ∙ h) in
      one_date issue a ∙ and_left (among "D" a.letter) _ l
  fewer_dates a (b ∷ xs) ys h =
      let t : linked issue a b && date_run issue (b ∷ xs ++ ys) ≡ true = sym (more_dates issue a b (xs ++ ys)) ∙ h in
      more_dates issue a b xs ∙ both (and_left (linked issue a b) _ t) (fewer_dates b xs ys (and_right (linked issue a b) _ t))

  fewer_single : (a : Supplement) (xs ys : List Supplement) → single (a ∷ xs ++ ys) ≡ true → single (a ∷ xs) ≡ true
  unfolding single
  fewer_single a [] [] h = h
  fewer_single a [] (y ∷ ys) h = clash h
  fewer_single a (b ∷ xs) ys h = clash h

  -- Every beginning of an allowed list is an allowed list.
  pub beginning : (xs ys : List Supplement) → list issue (xs ++ ys) ≡ true → list issue xs ≡ true
  unfolding list
  beginning [] ys h = refl
  beginning (a ∷ xs) ys h =
      split (single (a ∷ xs)) (λ e. simp e)
      (λ e.
      split (single (a ∷ xs ++ ys)) (λ f. clash (sym e ∙ fewer_single a xs ys f)) (λ f. simp e (fewer_dates a xs ys (simp f at h))))

-- So a list that is not allowed begins none: 31.
pub begins_none : (issue : ℕ) (xs ys : List Supplement) → list issue xs ≡ false → list issue (xs ++ ys) ≡ false
begins_none issue xs ys h = split (list issue (xs ++ ys)) (λ e. clash (sym h ∙ beginning issue xs ys e)) (λ e. e)

-- ---- one supplement more
-- a character of a set is none that the set lacks
differs : (t : String) (k : ℕ) → among t k ≡ false → (c : ℕ) → among t c ≡ true → eqb c k ≡ false
differs t k f c h = ne_eqb c k (λ e. true≢false (sym h ∙ ap (among t) e ∙ f))

only_date : (c : ℕ) → among "D" c ≡ true → c ≡ 68
unfolding among
only_date c h = split (eqb c 68) (λ e. eqb-true c 68 e) (λ e. clash (simp e at h))

swap : (a b : Bool) → cond a b false ≡ b && cond a true false
swap true true = refl
swap true false = refl
swap false true = refl
swap false false = refl

-- the letters of a first supplement
letters : (i w c d : Bool) → cond i true (cond w true (cond c true (cond d true false))) ≡ cond i true (cond w true (cond c true false)) || cond d true false
letters true w c d = refl
letters false true c d = refl
letters false false true d = refl
letters false false false d = refl

module _ (issue : ℕ) (x : Supplement) where
  first : may_join issue (kept []) x ≡ list issue (x ∷ [])
  unfolding may_join kept list single among
  first =
      letters (eqb x.letter 73) (eqb x.letter 87) (eqb x.letter 67) (eqb x.letter 68)
      ∙ ap (λ (b : Bool). among "IWC" x.letter || b) (sym (one_date issue x))

  -- after a date code
  after_date : (a : Supplement) → among "D" a.letter ≡ true → may_join issue (keep_of a) x ≡ date_run issue (a ∷ x ∷ [])
  unfolding may_join among
  after_date a h =
      let z : eqb a.letter 0 ≡ false = differs "D" 0 refl a.letter h in
      let d : eqb a.letter 68 ≡ true = eq-eqb a.letter 68 (only_date a.letter h) in
      rw (more_dates issue a x [], one_date issue x, kept_follows issue a x) (simp (z, d) (swap (eqb x.letter 68) (follows issue (code_of a) (code_of x))))

  after_dates : (a : Supplement) (xs : List Supplement) → date_run issue (a ∷ xs) ≡ true → may_join issue (kept (a ∷ xs)) x ≡ date_run issue (a ∷ xs ++ (x ∷ []))
  unfolding kept
  after_dates a [] h = after_date a (sym (one_date issue a) ∙ h)
  after_dates a (b ∷ xs) h =
      let t : linked issue a b && date_run issue (b ∷ xs) ≡ true = sym (more_dates issue a b xs) ∙ h in
      let l : linked issue a b ≡ true = and_left (linked issue a b) _ t in
      after_dates b xs (and_right (linked issue a b) _ t) ∙ sym (more_dates issue a b (xs ++ (x ∷ [])) ∙ ap (λ (c : Bool). c && date_run issue (b ∷ xs ++ (x ∷ []))) l)

  -- after an I, W or C
  after_single : (a : Supplement) (xs : List Supplement) → single (a ∷ xs) ≡ true → may_join issue (kept (a ∷ xs)) x ≡ date_run issue (a ∷ xs ++ (x ∷ []))
  unfolding may_join kept single among
  after_single a [] h =
      let z : eqb a.letter 0 ≡ false = differs "IWC" 0 refl a.letter h in
      let d : eqb a.letter 68 ≡ false = differs "IWC" 68 refl a.letter h in
      rw (more_dates issue a x []) (simp (z, d))
  after_single a (b ∷ xs) h = clash h

  too_many : (a : Supplement) (xs : List Supplement) → single (a ∷ xs ++ (x ∷ [])) ≡ false
  unfolding single
  too_many a [] = refl
  too_many a (b ∷ xs) = refl

-- What is kept of an allowed list decides: a supplement may join exactly when the list with it is allowed.
pub decides : (issue : ℕ) (xs : List Supplement) (x : Supplement) → list issue xs ≡ true → may_join issue (kept xs) x ≡ list issue (xs ++ (x ∷ []))
unfolding list
decides issue [] x h = first issue x
decides issue (a ∷ xs) x h =
    rw (too_many issue x a xs)
    (split (single (a ∷ xs)) (λ e. after_single issue x a xs e) (λ e. after_dates issue x a xs (simp e at h)))

-- ---- lists worked by hand
-- The issue month, an RP's list, and whether it is allowed.
pub record Row : Type 0 where
  pub issue : ℕ
  pub supplements : List Supplement
  pub allowed : Bool

abbrev row : ℕ → List Supplement → Bool → Row
row m xs a = record { issue = m; supplements = xs; allowed = a }

-- A supplement by its letter, and a date code by its month and days: what else they say decides nothing here.
abbrev by : String → Supplement
by t = saying (at t 0) 0 0 no_week 0 no_days 0 0 0 0 0

abbrev date : ℕ → ℕ → ℕ → ℕ → ℕ → ℕ → ℕ → Supplement
date m a b c d e f = saying 68 0 0 no_week m (record { d1 = a; d2 = b; d3 = c; d4 = d; d5 = e; d6 = f }) 0 0 0 0 0

-- What an RP may hold, in rows.
abbrev pub rows : List Row
rows =
    row 7 [] true ∷
    row 7 (by "I" ∷ []) true ∷
    row 7 (by "W" ∷ []) true ∷
    row 7 (by "C" ∷ []) true ∷
    -- never V
    row 7 (by "V" ∷ []) false ∷
    row 7 (date 7 1 0 0 0 0 0 ∷ by "V" ∷ []) false ∷
    -- one in all, and no run beside it
    row 7 (by "I" ∷ by "I" ∷ []) false ∷
    row 7 (by "W" ∷ date 7 1 0 0 0 0 0 ∷ []) false ∷
    row 7 (date 7 1 0 0 0 0 0 ∷ by "C" ∷ []) false ∷
    -- DCAKU000 D1FU0000
    row 12 (date 12 10 20 30 0 0 0 ∷ date 1 15 30 0 0 0 0 ∷ []) true ∷
    row 1 (date 12 10 20 30 0 0 0 ∷ date 1 15 30 0 0 0 0 ∷ []) false ∷
    -- days rise through the codes of a month, and only a code with six days goes on
    row 7 (date 0 1 2 3 4 5 6 ∷ date 0 7 0 0 0 0 0 ∷ []) true ∷
    row 7 (date 0 1 2 3 4 5 6 ∷ date 0 6 0 0 0 0 0 ∷ []) false ∷
    row 7 (date 0 1 2 3 4 5 0 ∷ date 0 7 0 0 0 0 0 ∷ []) false ∷
    -- every month, or named ones
    row 7 (date 0 1 2 3 4 5 6 ∷ date 7 7 0 0 0 0 0 ∷ []) false ∷
    []

-- Every row is right.
pub worked : map (λ r. list r.issue r.supplements) rows ≡ map (λ r. r.allowed) rows
unfolding list single date_run dates among at upto0 distance last_of follows allowed
worked = refl
