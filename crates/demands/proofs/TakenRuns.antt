-- A run is taken exactly when it is one or more D codes in the allowed order, and it names their days.
-- Assumes nothing.
use Prim.Native.Nat.{ℕ, ◌+◌, ◌/◌, ◌%◌, ◌≤◌}
use mathlib.Core.Path.{◌≡◌, refl, ◌∙◌, sym, ap, subst}
use mathlib.Core.Bool.{true, ◌&&◌}
use mathlib.Core.List.{List, [], ◌∷◌, ◌++◌, map, append_assoc, append-nil}
use mathlib.Core.Logic.{◌↔◌}
use native.Mathlib.Omega.{arith}
use borrow.Author.Tests.{eqb-true, eqb-false, eq-eqb, ne_eqb}
use lib.Dec.{eqb}
use lib.ListN.{length, length-append, length-map}
use Rattle.cells.specs.Text.{among}
use Rattle.cells.specs.Test.{Answer, took, refused}
use Rattle.cells.proofs.Split.{split}
use Rattle.cells.proofs.Alike.{and_left, and_right}
use Rattle.supplement.specs.Supplement.{read_supplement}
use Rattle.supplement.specs.declared.Supplement.{Supplement}
use Rattle.days.specs.Run.{Code, code_of, allowed, eights, stop, codes_of, set_of, takes, a_month, answers_in, read_run, Run}
use Rattle.days.proofs.Laws.{beginning}
use Rattle.schedule.specs.Schedule.{dates}
use Rattle.demands.specs.Taken.{TakenRun}
use Rattle.demands.proofs.Codes.{supplement_refused, supplement_some}
use Rattle.demands.proofs.Runs.{count_eights, is_date_lem}

-- the number of an answer
abbrev number_in : Run → ℕ
number_in r = r.number

-- the codes of answers that all took one
codes_of_lem : (xs : List Supplement) → codes_of (map took xs) ≡ map code_of xs
unfolding codes_of
codes_of_lem [] = refl
codes_of_lem (x ∷ xs) = ap (λ (cs : List Code). code_of x ∷ cs) (codes_of_lem xs)

module _ (issue : ℕ) where
  -- ---- nothing stops it
  -- what codes are, after those seen
  record Dates (seen : List Code) (answers : List (Answer Supplement)) : Type 0 where
    codes : List Supplement
    reads : answers ≡ map took codes
    only_dates : dates codes ≡ true
    order : 1 ≤ length (seen ++ map code_of codes) → allowed issue (seen ++ map code_of codes) ≡ true

  one_more : (c : List ℕ) (a : Answer Supplement) → read_supplement c ≡ a → (seen : List Code) (k : ℕ) (more : List (Answer Supplement)) →
      ((now : List Code) → (stop issue now (k + 1) more).number ≡ 0 → (1 ≤ length now → allowed issue now ≡ true) → Dates now more) →
      (stop issue seen k (a ∷ more)).number ≡ 0 → Dates seen (a ∷ more)
  unfolding stop dates
  one_more c (refused n p) e seen k more next h = absurd (supplement_some c n p (supplement_refused c n p e) h)
  one_more c (took x) e seen k more next h =
      split (eqb x.letter 68 && allowed issue (seen ++ (code_of x ∷ [])))
      (λ a.
      let d : eqb x.letter 68 ≡ true = and_left _ _ a in
      let r = next (seen ++ (code_of x ∷ [])) (simp a at h) (λ l. and_right (eqb x.letter 68) _ a) in
      let t : (seen ++ (code_of x ∷ [])) ++ map code_of r.codes ≡ seen ++ (code_of x ∷ map code_of r.codes) =
      append_assoc seen (code_of x ∷ []) (map code_of r.codes) in
      record {
        codes = x ∷ r.codes;
        reads = ap (λ (cs : List (Answer Supplement)). took x ∷ cs) r.reads;
        only_dates = simp (is_date_lem x.letter, d) r.only_dates;
        order = subst (λ (cs : List Code). 1 ≤ length cs → allowed issue cs ≡ true) t r.order;
      })
      (λ a. absurd (let z : ◌≡◌ {A = ℕ} 12 0 = simp a at h in omega arith))

  all_dates : (cs : List (List ℕ)) (seen : List Code) (k : ℕ) → (stop issue seen k (map read_supplement cs)).number ≡ 0 →
      (1 ≤ length seen → allowed issue seen ≡ true) → Dates seen (map read_supplement cs)
  unfolding dates
  all_dates [] seen k h o = record { codes = []; reads = refl; only_dates = refl; order = rw (append-nil seen) o }
  all_dates (c ∷ cs) seen k h o =
      one_more c (read_supplement c) refl seen k (map read_supplement cs) (λ now z q. all_dates cs now (k + 1) z q) h

  -- ---- dates in order
  unstopped : (xs : List Supplement) (seen : List Code) (k : ℕ) → dates xs ≡ true → allowed issue (seen ++ map code_of xs) ≡ true →
      (stop issue seen k (map took xs)).number ≡ 0
  unfolding stop dates
  unstopped [] seen k d o = refl
  unstopped (x ∷ xs) seen k d o =
      let t : (seen ++ (code_of x ∷ [])) ++ map code_of xs ≡ seen ++ (code_of x ∷ map code_of xs) = append_assoc seen (code_of x ∷ []) (map code_of xs) in
      let q : allowed issue ((seen ++ (code_of x ∷ [])) ++ map code_of xs) ≡ true = ap (allowed issue) t ∙ o in
      let l : eqb x.letter 68 ≡ true = sym (is_date_lem x.letter) ∙ and_left _ _ d in
      let b : allowed issue (seen ++ (code_of x ∷ [])) ≡ true =
      beginning issue (seen ++ (code_of x ∷ [])) (map code_of xs) q (omega (arith, length-append seen (code_of x ∷ []))) in
      simp (l, b) (unstopped xs (seen ++ (code_of x ∷ [])) (k + 1) (and_right (among "D" x.letter) _ d) q)

  some_date : (xs : List Supplement) → allowed issue (map code_of xs) ≡ true → 1 ≤ length xs
  unfolding allowed
  some_date [] h = absurd (let z : ◌≡◌ {A = ℕ} 0 1 = cc in omega arith)
  some_date (x ∷ xs) h = omega arith

  -- ---- the run
  module _ (s cells : List ℕ) where
    there : read_run issue s ≡ takes cells → TakenRun issue s cells
    unfolding read_run
    there h =
        split (a_month issue)
        (λ a. split (eqb (length s % 8) 0)
        (λ b. split (eqb (length s) 0) (λ c. absurd (let z : ◌≡◌ {A = ℕ} 12 0 = ap number_in (simp (a, b, c) at h) in omega arith))
        (λ c. split (eqb (stop issue [] 1 (answers_in s)).number 0)
        (λ d.
        let k = simp (a, b, c, d) at h in
        let r = all_dates (eights (length s / 8) s) [] 1 (eqb-true _ _ d) (λ l. absurd (omega arith)) in
        let e : set_of (codes_of (answers_in s)) ≡ cells = ap (λ (r : Run). r.days.cells) k in
        let n : length (answers_in s) ≡ length s / 8 = length-map (eights (length s / 8) s) read_supplement ∙ count_eights (length s / 8) s in
        let m : length s % 8 ≡ 0 = eqb-true _ _ b in
        let z : length s ≡ 0 → ⊥ = eqb-false _ _ c in
        let u : length (map code_of r.codes) ≡ length s / 8 =
        length-map r.codes code_of ∙ sym (length-map r.codes took) ∙ ap length (sym r.reads) ∙ n in
        record {
          month = a;
          whole = m;
          codes = r.codes;
          reads = r.reads;
          only_dates = r.only_dates;
          order = r.order (omega arith);
          names = ap set_of (sym (codes_of_lem r.codes) ∙ ap codes_of (sym r.reads)) ∙ e;
        })
        (λ d. absurd (eqb-false _ _ d (ap number_in (simp (a, b, c, d) at h))))))
        (λ b. absurd (let z : ◌≡◌ {A = ℕ} 1 0 = ap number_in (simp (a, b) at h) in omega arith)))
        (λ a. absurd (let z : ◌≡◌ {A = ℕ} 10 0 = ap number_in (simp a at h) in omega arith))

    back : TakenRun issue s cells → read_run issue s ≡ takes cells
    unfolding read_run
    back t =
        let n : length (answers_in s) ≡ length s / 8 = length-map (eights (length s / 8) s) read_supplement ∙ count_eights (length s / 8) s in
        let m : length (answers_in s) ≡ length t.codes = ap length t.reads ∙ length-map t.codes took in
        let l : 1 ≤ length t.codes = some_date t.codes t.order in
        let z : length s ≡ 0 → ⊥ = λ e. let y : length s / 8 ≡ 0 = ap (λ (j : ℕ). j / 8) e in omega arith in
        let w : (stop issue [] 1 (answers_in s)).number ≡ 0 =
        ap (λ (cs : List (Answer Supplement)). (stop issue [] 1 cs).number) t.reads ∙ unstopped t.codes [] 1 t.only_dates t.order in
        simp (t.month, eq-eqb _ _ t.whole, ne_eqb _ _ z, eq-eqb _ _ w)
        (ap takes (ap set_of (ap codes_of t.reads ∙ codes_of_lem t.codes) ∙ t.names))

    -- A run is taken exactly when document 01 takes it, and the set is what its codes name.
    pub run_taken : read_run issue s ≡ takes cells ↔ TakenRun issue s cells
    run_taken = (there, back)
