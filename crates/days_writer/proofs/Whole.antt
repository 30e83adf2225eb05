-- A run as characters: what is read as a set is the characters of good codes that are an allowed run and name the set, and the characters
-- of such codes are read as their set.
-- Assumes nothing.
use Prim.Native.Nat.{ℕ, zero, suc, ◌+◌, ◌*◌, ◌/◌, ◌%◌, ◌≤◌}
use mathlib.Core.Path.{◌≡◌, refl, sym, ap, ap₂, subst, ◌∙◌}
use mathlib.Core.Bool.{true, ◌&&◌}
use mathlib.Core.List.{List, [], ◌∷◌, ◌++◌, map, append-nil}
use native.Mathlib.Omega.{arith}
use borrow.Author.Tests.{eq-eqb, ne_eqb, eqb-true, eqb-false, leb-true}
use lib.Dec.{eqb, leb}
use lib.ListN.{length, take, drop, length-append, length-drop, take-append-drop}
use lib.Seq.{append_snoc}
use Rattle.cells.specs.Test.{Answer, took, refused}
use Rattle.cells.proofs.Split.{split}
use Rattle.cells.proofs.Alike.{and_left, and_right}
use Rattle.supplement.specs.Supplement.{read_supplement}
use Rattle.supplement.specs.declared.Supplement.{Supplement}
use Rattle.days.specs.Run.{Code, code_of, allowed, eights, stopped, stop, codes_of, set_of, takes, a_month, answers_in, read_run}
use Rattle.days.specs.Run.{Run}
use Rattle.days.specs.Code.Good.{Good, pad, code_bytes}
use Rattle.days.proofs.Named.{Goods}
use Rattle.days.proofs.Text.{date, refused_some}
use Rattle.days.proofs.Month.{a_month_lem}
use Rattle.days.proofs.Laws.{beginning}
use Rattle.days_writer.specs.Code.Print.{bytes_of}
use Rattle.days_writer.proofs.Text.{printed}

-- an allowed run has a code, and eight characters to a code
pub some_code : (issue : ℕ) (cs : List Code) → allowed issue cs ≡ true → 1 ≤ length cs
unfolding allowed
some_code issue [] h = absurd (let z : ◌≡◌ {A = ℕ} 0 1 = cc in omega arith)
some_code issue (c ∷ cs) h = omega arith

pub bytes_length : (cs : List Code) → length (bytes_of cs) ≡ 8 * length cs
unfolding bytes_of code_bytes pad
bytes_length [] = refl
bytes_length (c ∷ cs) = omega (arith, bytes_length cs)

-- ---- the characters of good codes, read

-- the answers to the characters of codes, the codes that they are, and that nothing stops
abbrev answers : List Code → List (Answer Supplement)
answers cs = map read_supplement (eights (length cs) (bytes_of cs))

answers_cons : (c : Code) (cs : List Code) (g : Good c) → answers (c ∷ cs) ≡ took (printed c g).says ∷ answers cs
unfolding eights bytes_of code_bytes pad
answers_cons c cs g = ap (λ (a : Answer Supplement). a ∷ answers cs) (printed c g).reads

codes_again : (cs : List Code) → Goods cs → codes_of (answers cs) ≡ cs
unfolding codes_of eights
codes_again [] g = refl
codes_again (c ∷ cs) g = ap codes_of (answers_cons c cs g.0) ∙ ap₂ (λ (x : Code) (xs : List Code). x ∷ xs) (printed c g.0).code (codes_again cs g.1)

no_stop : (issue : ℕ) (cs seen : List Code) (k : ℕ) → Goods cs → allowed issue (seen ++ cs) ≡ true → stop issue seen k (answers cs) ≡ stopped 0 0 0
unfolding stop eights
no_stop issue [] seen k g h = refl
no_stop issue (c ∷ cs) seen k g h =
    let p = printed c g.0 in
    let e : allowed issue ((seen ++ (c ∷ [])) ++ cs) ≡ true = ap (allowed issue) (append_snoc seen c cs) ∙ h in
    let n : 1 ≤ length (seen ++ (c ∷ [])) = omega (arith, length-append seen (c ∷ [])) in
    ap (stop issue seen k) (answers_cons c cs g.0)
    ∙ simp (p.code, eq-eqb _ _ p.letter, beginning issue (seen ++ (c ∷ [])) cs e n) (no_stop issue cs (seen ++ (c ∷ [])) (k + 1) g.1 e)

-- good codes that are an allowed run are read as their set
pub reads : (issue : ℕ) (cs : List Code) → 1 ≤ issue → issue ≤ 12 → Goods cs → allowed issue cs ≡ true → read_run issue (bytes_of cs) ≡ takes (set_of cs)
unfolding read_run
reads issue cs lo hi g h =
    let n = bytes_length cs in
    let some : 1 ≤ length cs = some_code issue cs h in
    let q : length (bytes_of cs) / 8 ≡ length cs = omega arith in
    let a : answers_in (bytes_of cs) ≡ answers cs = ap (λ (k : ℕ). map read_supplement (eights k (bytes_of cs))) q in
    let e : stop issue [] 1 (answers_in (bytes_of cs)) ≡ stopped 0 0 0 = ap (stop issue [] 1) a ∙ no_stop issue cs [] 1 g h in
    let c : codes_of (answers_in (bytes_of cs)) ≡ cs = ap codes_of a ∙ codes_again cs g in
    simp (a_month_lem issue lo hi, eq-eqb (length (bytes_of cs) % 8) 0 (omega arith), ne_eqb (length (bytes_of cs)) 0 (omega arith), e, c)

-- ---- what is read as a set

-- the codes that answers are, where nothing stops
record Codes (issue : ℕ) (seen : List Code) (rs : List (Answer Supplement)) (s : List ℕ) : Type 0 where
  good : Goods (codes_of rs)
  text : bytes_of (codes_of rs) ≡ s
  fine : 1 ≤ length (seen ++ codes_of rs) → allowed issue (seen ++ codes_of rs) ≡ true

all_codes : (issue n : ℕ) (s : List ℕ) (seen : List Code) (k : ℕ) → length s ≡ 8 * n → (1 ≤ length seen → allowed issue seen ≡ true) →
    (stop issue seen k (map read_supplement (eights n s))).number ≡ 0 → Codes issue seen (map read_supplement (eights n s)) s
unfolding eights stop codes_of bytes_of
all_codes issue zero s seen k l w h = record { good = tt; text = none s l; fine = rw (append-nil seen) w }
  where
    none : (s : List ℕ) → length s ≡ 8 * 0 → [] ≡ s
    none [] e = refl
    none (x ∷ s) e = absurd (omega arith)
all_codes issue (suc n) s seen k l w h = go (read_supplement (take 8 s)) refl (λ c v g. all_codes issue n (drop 8 s) (seen ++ (c ∷ [])) (k + 1) (omega (arith, length-drop 8 s)) v g)
  where
    more : List (Answer Supplement)
    more = map read_supplement (eights n (drop 8 s))

    go : (a : Answer Supplement) → read_supplement (take 8 s) ≡ a →
        ((c : Code) → (1 ≤ length (seen ++ (c ∷ [])) → allowed issue (seen ++ (c ∷ [])) ≡ true) → (stop issue (seen ++ (c ∷ [])) (k + 1) more).number ≡ 0 → Codes issue (seen ++ (c ∷ [])) more (drop 8 s)) →
        Codes issue seen (read_supplement (take 8 s) ∷ more) s
    go (refused m p) e f = absurd (refused_some (take 8 s) m p e (ap (λ (a : Answer Supplement). (stop issue seen k (a ∷ more)).number) (sym e) ∙ h))
    go (took x) e f =
        let i = ap (λ (a : Answer Supplement). (stop issue seen k (a ∷ more)).number) (sym e) ∙ h in
        split (eqb x.letter 68 && allowed issue (seen ++ (code_of x ∷ [])))
        (λ t.
        let d = date (take 8 s) x e (eqb-true _ _ (and_left _ _ t)) in
        let r = f (code_of x) (λ n. and_right (eqb x.letter 68) _ t) (simp t at i) in
        let n = length-append (seen ++ (code_of x ∷ [])) (codes_of more) in
        subst (λ (a : Answer Supplement). Codes issue seen (a ∷ more) s) (sym e)
        (record {
          good = (d.good, r.good);
          text = ap₂ (λ (a b : List ℕ). a ++ b) (sym d.text) r.text ∙ take-append-drop 8 s;
          fine = λ z. ap (allowed issue) (sym (append_snoc seen (code_of x) (codes_of more))) ∙ r.fine (omega (arith, length-append seen (code_of x ∷ [])));
        }))
        (λ t. absurd (let z : ◌≡◌ {A = ℕ} 12 0 = simp t at i in omega arith))

-- what is read as a set is held: characters of good codes that are an allowed run and name the set
pub record Held (issue : ℕ) (s cells : List ℕ) : Type 0 where
  pub low : 1 ≤ issue
  pub high : issue ≤ 12
  pub codes : List Code
  pub good : Goods codes
  pub fine : allowed issue codes ≡ true
  pub text : bytes_of codes ≡ s
  pub names : set_of codes ≡ cells

number : Run → ℕ
number r = r.number

pub held : (issue : ℕ) (s cells : List ℕ) → read_run issue s ≡ takes cells → Held issue s cells
unfolding read_run number
held issue s cells h =
    split (a_month issue)
    (λ a. split (eqb (length s % 8) 0)
    (λ b. split (eqb (length s) 0) (λ c. absurd (let z : 12 ≡ 0 = ap number (simp (a, b, c) at h) in omega arith))
    (λ c. split (eqb (stop issue [] 1 (answers_in s)).number 0)
    (λ d.
    let k = simp (a, b, c, d) at h in
    let r = all_codes issue (length s / 8) s [] 1 (let m : length s % 8 ≡ 0 = eqb-true _ _ b in omega arith) (λ n. absurd (omega arith)) (eqb-true _ _ d) in
    let n = bytes_length (codes_of (answers_in s)) in
    let f = ap length r.text in
    let g : length s ≡ 0 → ⊥ = eqb-false _ _ c in
    record {
      low = leb-true _ _ (and_left _ _ a);
      high = leb-true _ _ (and_right (leb 1 issue) _ a);
      codes = codes_of (answers_in s);
      good = r.good;
      fine = r.fine (omega arith);
      text = r.text;
      names = ap (λ (r : Run). r.days.cells) k;
    })
    (λ d. absurd (eqb-false _ _ d (ap number (simp (a, b, c, d) at h))))))
    (λ b. absurd (let z : 1 ≡ 0 = ap number (simp (a, b) at h) in omega arith)))
    (λ a. absurd (let z : 10 ≡ 0 = ap number (simp a at h) in omega arith))
