-- Runs of date codes and sets of days: what a refusal tells, and what a set that is written leaves of the lent bytes.
-- Assumes nothing.
use Prim.Native.Nat.{ℕ, zero, suc, ◌+◌, ◌*◌, ◌/◌, ◌%◌, ◌≤◌}
use mathlib.Core.Path.{◌≡◌, refl, ◌∙◌, sym, ap, subst}
use mathlib.Core.Bool.{true, ◌&&◌}
use mathlib.Core.List.{List, [], ◌∷◌, ◌++◌, map, map-append}
use mathlib.Core.Logic.{◌↔◌}
use native.Mathlib.Nat.{div-add-mod'}
use native.Mathlib.Omega.{arith}
use borrow.Author.Tests.{eqb-true, eqb-false, eq-eqb, ne_eqb, leb-true, leb-false}
use lib.Dec.{eqb, leb}
use lib.ListN.{length, drop, length-append, length-drop, length-map}
use lib.Seq.{drop_at}
use Rattle.cells.specs.Text.{among}
use Rattle.cells.specs.Test.{Answer, took, refused}
use Rattle.cells.proofs.Split.{split}
use Rattle.cells.proofs.Alike.{and_left, and_parts}
use Rattle.supplement.specs.Supplement.{read_supplement}
use Rattle.supplement.specs.declared.Supplement.{Supplement}
use Rattle.days.specs.Run.{Code, code_of, allowed, eights, Stop, stopped, stop, takes, refuses, a_month, answers_in, read_run, Run}
use Rattle.schedule.specs.Schedule.{dates, date_run}
use Rattle.days_writer.specs.Set.{writable, said, WritesSet}
use Rattle.demands.specs.Numbers.{Comes, here, next, RunNumber, not_whole, empty, no_run, own, SetNumber, cannot, room}
use Rattle.demands.specs.Numbers as numbers
use Rattle.demands.specs.Lent.{OnlyBetween}
use Rattle.demands.proofs.Codes.{supplement_refused, supplement_some}
use Rattle.std.specs.Prelude.{Result, ℕ}
use Rattle.cells.specs.declared.Fault.{Fault}

-- ---- a run
-- there are cs many codes cs are asked for
pub count_eights : (n : ℕ) (s : List ℕ) → length (eights n s) ≡ n
unfolding eights
count_eights zero s = refl
count_eights (suc n) s = ap suc (count_eights n (drop 8 s))

-- the letter D
pub is_date_lem : (c : ℕ) → among "D" c ≡ eqb c 68
unfolding among
is_date_lem c = split (eqb c 68) (λ a. simp a) (λ a. simp a)

-- one code more
dates_more : (xs : List Supplement) (x : Supplement) → dates xs ≡ true → dates (xs ++ (x ∷ [])) ≡ eqb x.letter 68
unfolding dates
dates_more [] x h = split (among "D" x.letter) (λ a. simp a (sym (sym (is_date_lem x.letter) ∙ a))) (λ a. simp a (sym (sym (is_date_lem x.letter) ∙ a)))
dates_more (y ∷ xs) x h = let k = and_parts (among "D" y.letter) (dates xs) h in simp k.0 (dates_more xs x k.1)

run_more : (issue : ℕ) (xs : List Supplement) (x : Supplement) → dates xs ≡ true →
    date_run issue (xs ++ (x ∷ [])) ≡ (eqb x.letter 68 && allowed issue (map code_of xs ++ (code_of x ∷ [])))
unfolding date_run
run_more issue xs x h = simp (dates_more xs x h, map-append)

module _ (issue : ℕ) (s : List ℕ) where
  -- what is told of what stops it
  abbrev Tells : Stop → Type 0
  Tells t = (t.number ≡ 0 → ⊥) → RunNumber issue s t.number t.place t.code

  module _ (m : a_month issue ≡ true) (w : length s % 8 ≡ 0) where
    -- the codes from the jth on
    by_codes : (cs : List (Answer Supplement)) (xs : List Supplement) (j : ℕ) → dates xs ≡ true →
        ((k : ℕ) (ys : List Supplement) (a : Answer Supplement) → Comes issue j xs cs k ys a → Comes issue 1 [] (answers_in s) k ys a) →
        Tells (stop issue (map code_of xs) j cs)
    unfolding stop
    by_codes [] xs j d up = λ z. absurd (z refl)
    by_codes (refused n p ∷ more) xs j d up = λ z. own m w (up j xs (refused n p) here)
    by_codes (took x ∷ more) xs j d up =
        let e = run_more issue xs x d in
        let f : map code_of (xs ++ (x ∷ [])) ≡ map code_of xs ++ (code_of x ∷ []) = map-append code_of xs (x ∷ []) in
        split (eqb x.letter 68 && allowed issue (map code_of xs ++ (code_of x ∷ [])))
        (λ a. simp a
        (subst (λ (seen : List Code). Tells (stop issue seen (j + 1) more)) f
        (by_codes more (xs ++ (x ∷ [])) (j + 1) (dates_more xs x d ∙ and_left (eqb x.letter 68) _ a) (λ k ys b h. up k ys b (next (e ∙ a) h)))))
        (λ a. simp a (λ z. no_run m w (up j xs (took x) here) (e ∙ a)))

  -- A run that is refused is told one of the table's numbers, with its place and, for a code's own, the code's number.
  run_refused : ((read_run issue s).number ≡ 0 → ⊥) → RunNumber issue s (read_run issue s).number (read_run issue s).place (read_run issue s).code
  unfolding read_run dates
  run_refused z =
      split (a_month issue)
      (λ a. split (eqb (length s % 8) 0)
      (λ b. split (eqb (length s) 0) (λ d. simp (a, b, d) (empty a (eqb-true _ _ d)))
      (λ d. split (eqb (stop issue [] 1 (answers_in s)).number 0) (λ e. absurd (simp (a, b, d, e) at z refl))
      (λ e. simp (a, b, d, e) (by_codes a (eqb-true _ _ b) (answers_in s) [] 1 refl (λ k ys x h. h) (eqb-false _ _ e)))))
      (λ b. simp (a, b) (not_whole a (eqb-false _ _ b))))
      (λ a. simp a (numbers.RunNumber.month a))

  -- What stops it is what comes first.
  comes : (j : ℕ) (xs : List Supplement) (cs : List (Answer Supplement)) (k : ℕ) (ys : List Supplement) (a : Answer Supplement) → Comes issue j xs cs k ys a →
      dates xs ≡ true → (t : Stop) → (dates ys ≡ true → (more : List (Answer Supplement)) → stop issue (map code_of ys) k (a ∷ more) ≡ t) →
      stop issue (map code_of xs) j cs ≡ t
  unfolding stop
  comes j xs cs k ys a (here {more = more}) d t h = h d more
  comes j xs cs k ys a (next {x = x} {more = more} r c) d t h =
      let e = sym (run_more issue xs x d) ∙ r in
      let f : map code_of (xs ++ (x ∷ [])) ≡ map code_of xs ++ (code_of x ∷ []) = map-append code_of xs (x ∷ []) in
      simp e
      (ap (λ (seen : List Code). stop issue seen (j + 1) more) (sym f)
      ∙ comes (j + 1) (xs ++ (x ∷ [])) more k ys a c (dates_more xs x d ∙ and_left (eqb x.letter 68) _ e) t h)

  -- the first codes are some
  some_code : (j : ℕ) (xs : List Supplement) (cs : List (Answer Supplement)) (k : ℕ) (ys : List Supplement) (a : Answer Supplement) → Comes issue j xs cs k ys a →
      1 ≤ length cs
  some_code j xs cs k ys a here = omega arith
  some_code j xs cs k ys a (next r c) = omega arith

  not_empty : (k : ℕ) (ys : List Supplement) (a : Answer Supplement) → Comes issue 1 [] (answers_in s) k ys a → length s ≡ 0 → ⊥
  not_empty k ys a c e =
      let n : length (answers_in s) ≡ length s / 8 = length-map (eights (length s / 8) s) read_supplement ∙ count_eights (length s / 8) s in
      let y : length s / 8 ≡ 0 = ap (λ (j : ℕ). j / 8) e in
      omega (arith, some_code 1 [] (answers_in s) k ys a c)

  -- and no code's own number is 0
  abbrev Numbered : Answer Supplement → Type 0
  Numbered (took x) = Unit
  Numbered (refused n p) = n ≡ 0 → ⊥

  numbered : (c : List ℕ) (a : Answer Supplement) → read_supplement c ≡ a → Numbered a
  numbered c (took x) e = tt
  numbered c (refused n p) e = supplement_some c n p (supplement_refused c n p e)

  abbrev AllNumbered : List (Answer Supplement) → Type 0
  AllNumbered [] = Unit
  AllNumbered (a ∷ cs) = Numbered a × AllNumbered cs

  all_numbered : (cs : List (List ℕ)) → AllNumbered (map read_supplement cs)
  all_numbered [] = tt
  all_numbered (c ∷ cs) = (numbered c (read_supplement c) refl, all_numbered cs)

  comes_numbered : (j : ℕ) (xs : List Supplement) (cs : List (Answer Supplement)) (k : ℕ) (ys : List Supplement) (a : Answer Supplement) → Comes issue j xs cs k ys a →
      AllNumbered cs → Numbered a
  comes_numbered j xs cs k ys a here h = h.0
  comes_numbered j xs cs k ys a (next {xs = zs} {x = x} {more = more} r c) h = comes_numbered (j + 1) (zs ++ (x ∷ [])) more k ys a c h.1

  run_told : (n p k : ℕ) → RunNumber issue s n p k → (read_run issue s ≡ refuses (stopped n p k)) × (n ≡ 0 → ⊥)
  unfolding read_run dates stop
  run_told n p k (numbers.RunNumber.month a) = (simp a, λ z. omega arith)
  run_told n p k (not_whole a h) = (simp (a, ne_eqb _ _ h), λ z. omega arith)
  run_told n p k (empty a h) = let m : length s % 8 ≡ 0 = ap (λ (j : ℕ). j % 8) h in (simp (a, eq-eqb _ _ m, eq-eqb _ _ h), λ z. omega arith)
  run_told n p k (no_run {k = j} {xs = xs} {x = x} a w c e) =
      let t : stop issue [] 1 (answers_in s) ≡ stopped 12 j 0 =
      comes 1 [] (answers_in s) j xs (took x) c refl (stopped 12 j 0) (λ d more. simp (sym (run_more issue xs x d) ∙ e)) in
      (simp (a, eq-eqb _ _ w, ne_eqb _ _ (not_empty j xs (took x) c), t), λ z. omega arith)
  run_told n p k (own {xs = xs} a w c) =
      let t : stop issue [] 1 (answers_in s) ≡ stopped n p k = comes 1 [] (answers_in s) k xs (refused n p) c refl (stopped n p k) (λ d more. refl) in
      let z : n ≡ 0 → ⊥ = comes_numbered 1 [] (answers_in s) k xs (refused n p) c (all_numbered (eights (length s / 8) s)) in
      (simp (a, eq-eqb _ _ w, ne_eqb _ _ (not_empty k xs (refused n p) c), t, ne_eqb _ _ z), z)

  -- A run is refused exactly so.
  pub run_exactly : (n p k : ℕ) → ((read_run issue s ≡ refuses (stopped n p k)) × (n ≡ 0 → ⊥)) ↔ RunNumber issue s n p k
  run_exactly n p k = (
    λ h.
        let a : (read_run issue s).number ≡ n = ap (λ (r : Run). r.number) h.0 in
        let b : (read_run issue s).place ≡ p = ap (λ (r : Run). r.place) h.0 in
        let c : (read_run issue s).code ≡ k = ap (λ (r : Run). r.code) h.0 in
        subst (λ (i : ℕ). RunNumber issue s i p k) a
        (subst (λ (i : ℕ). RunNumber issue s (read_run issue s).number i k) b
        (subst (RunNumber issue s (read_run issue s).number (read_run issue s).place) c (run_refused (λ y. h.1 (sym a ∙ y))))),
    run_told n p k,
  )

-- ---- a set
-- a run that is taken has an issue month and is whole codes
taken_run : (issue : ℕ) (s cells : List ℕ) → read_run issue s ≡ takes cells → (a_month issue ≡ true) × (8 * (length s / 8) ≡ length s)
unfolding read_run
taken_run issue s cells h =
    split (a_month issue)
    (λ a. split (eqb (length s % 8) 0) (λ b. (a, omega (arith, div-add-mod' (length s) 8, eqb-true (length s % 8) 0 b)))
    (λ b. absurd (let z : ◌≡◌ {A = ℕ} 1 0 = ap (λ (r : Run). r.number) (simp (a, b) at h) in omega arith)))
    (λ a. absurd (let z : ◌≡◌ {A = ℕ} 10 0 = ap (λ (r : Run). r.number) (simp a at h) in omega arith))

-- A run that is taken has an issue month,
pub its_month : (issue : ℕ) (s cells : List ℕ) → read_run issue s ≡ takes cells → a_month issue ≡ true
its_month issue s cells h = (taken_run issue s cells h).0

-- and is whole codes.
pub whole_codes : (issue : ℕ) (s cells : List ℕ) → read_run issue s ≡ takes cells → 8 * (length s / 8) ≡ length s
whole_codes issue s cells h = (taken_run issue s cells h).1

-- the buffer begins with the run
begins_only : (run before after : List ℕ) (to : ℕ) → to ≡ length run → length run ≤ length before → after ≡ run ++ drop (length run) before →
    OnlyBetween 0 to before after
begins_only run before after to e l h =
    record {
      rising = omega arith;
      fits = omega arith;
      first = refl;
      last = ap (drop to) h ∙ drop_at run (drop (length run) before) to (sym e) ∙ ap (λ (k : ℕ). drop k before) (sym e);
      size = omega (arith, ap length h, length-append run (drop (length run) before), length-drop (length run) before);
    }

module _ (issue : ℕ) (cells before after : List ℕ) (w : Result ℕ Fault) (k : WritesSet issue cells before after w) where
  -- which answer it is
  by_set : {P : Type 0} → ((n p : ℕ) → SetNumber issue cells before n p → said w ≡ refused n p → after ≡ before → P) →
      ((n : ℕ) → said w ≡ took n → OnlyBetween 0 (8 * n) before after → P) → P
  by_set f g =
      split (a_month issue)
      (λ a. split (writable cells)
      (λ b.
      let q = k.can a b in
      split (leb (length q.run) (length before))
      (λ d. let u = q.fits (leb-true _ _ d) in
      g (length q.run / 8) u.0
      (begins_only q.run before after (8 * (length q.run / 8)) (whole_codes issue q.run cells q.reads) (leb-true _ _ d) u.1))
      (λ d. let u = q.short (leb-false _ _ d) in f 33 0 (room q.run q.reads (leb-false _ _ d)) u.0 u.1))
      (λ b. let u = k.cannot a b in f 11 0 (cannot a b) u.0 u.1))
      (λ a. let u = k.no_month a in f 10 0 (numbers.SetNumber.month a) u.0 u.1)

  -- A set that is refused is told 10, 11 or 33, and no byte changes.
  pub set_refused : (n p : ℕ) → said w ≡ refused n p → SetNumber issue cells before n p × (after ≡ before)
  set_refused n p h =
      by_set
      (λ m q x e u.
      let d : m ≡ n = cc in
      let i : q ≡ p = cc in
      (subst (λ (y : ℕ). SetNumber issue cells before y p) d (subst (SetNumber issue cells before m) i x), u))
      (λ m e u. absurd (let z : ◌≡◌ {A = ℕ} 0 1 = cc in omega arith))

  -- One that is written changes only the bytes of the codes that it tells.
  pub set_written : (n : ℕ) → said w ≡ took n → OnlyBetween 0 (8 * n) before after
  set_written n h =
      by_set (λ m q x e u. absurd (let z : ◌≡◌ {A = ℕ} 0 1 = cc in omega arith))
      (λ m e u. let d : m ≡ n = cc in subst (λ (y : ℕ). OnlyBetween 0 (8 * y) before after) d u)
