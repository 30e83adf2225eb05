-- Parts judged one by one, and texts between commas, as the loops walk along them.
-- Assumes nothing.
use Prim.Native.Nat.{ℕ, suc, ◌+◌, ◌-◌, ◌≤◌, ◌<◌}
use mathlib.Core.Path.{◌≡◌, refl, ◌∙◌, ap₂}
use mathlib.Core.List.{List, [], ◌∷◌}
use native.Mathlib.Numerals.{add-one}
use native.Mathlib.Omega.{arith}
use borrow.Author.Tests.{eq-eqb, ne_eqb, eqb-true, eqb-false}
use lib.Dec.{eqb}
use lib.ListN.{length, get_or, take, drop, length-drop, drop_of_length-le}
use lib.Seq.{drop-cons, drop-drop}
use Rattle.cells.proofs.Split.{split as cases}
use Rattle.line.specs.Fields.{split, push}
use Rattle.field.specs.Field.{Context, read_field}
use Rattle.field.specs.declared.Rule.{Rule}
use Rattle.row.specs.Table.{wide, kind_field, code_field, rules_from, kept_rule}
use Rattle.laid.specs.Laid.{Laid}
use Rattle.entry.specs.Code.Judge.{wrong_at, wrong_from, upto, comma_from, texts_wrong}

-- ---- the fields of a typed record
-- the kind and the drug code are among the first five
pub kind_most : (n : ℕ) → kind_field n ≤ 5
kind_most n =
    cases (eqb n 111) (λ e. simp e (omega arith))
    (λ a. cases (eqb n 181) (λ e. simp (a, e) (omega arith)) (λ b. cases (eqb n 201) (λ e. simp (a, b, e) (omega arith)) (λ e. simp (a, b, e) (omega arith))))

pub code_most : (n : ℕ) → code_field n ≤ 5
code_most n = cases (eqb n 201) (λ e. simp e (omega arith)) (λ e. simp e (omega arith))

-- no table has more rules than a row has room for
pub few_rules : (n : ℕ) (kind code : List ℕ) → length (rules_from n kind code) ≤ wide
unfolding rules_from
few_rules n kind code =
    cases (eqb n 51) (λ e. simp e (omega arith))
    (λ a. cases (eqb n 101) (λ e. simp (a, e) (omega arith))
    (λ b. cases (eqb n 111) (λ e. simp (a, b, e) (omega arith))
    (λ d. cases (eqb n 181) (λ e. simp (a, b, d, e) (omega arith)) (λ e. simp (a, b, d, e) (omega arith)))))

module _ (c : Context) (lent : List ℕ) (rs : List Rule) (p : Laid) (count i : ℕ) (h : i < count) where
  one_more : count - i ≡ suc (count - (i + 1))
  one_more = omega arith

  -- a field that is wrong,
  pub wrong_here : (wrong_at c lent rs p i ≡ 0 → ⊥) → wrong_from c lent rs p (count - i) i ≡ wrong_at c lent rs p i
  unfolding wrong_from
  wrong_here z = rw (one_more, ne_eqb (wrong_at c lent rs p i) 0 z)

  -- and one that is not
  pub wrong_later : wrong_at c lent rs p i ≡ 0 → wrong_from c lent rs p (count - i) i ≡ wrong_from c lent rs p (count - (i + 1)) (i + 1)
  unfolding wrong_from
  wrong_later z = rw (one_more, eq-eqb (wrong_at c lent rs p i) 0 z)

-- ---- texts between commas
-- The bytes up to a comma are the first of them.
pub upto_most : (s : List ℕ) → length (upto s) ≤ length s
unfolding upto
upto_most [] = omega arith
upto_most (b ∷ s) = cases (eqb b 0x2c) (λ e. simp e (omega arith)) (λ e. simp e (let k : length (upto s) ≤ length s = upto_most s in omega arith))

pub upto_take : (s : List ℕ) → take (length (upto s)) s ≡ upto s
unfolding upto
upto_take [] = refl
upto_take (b ∷ s) = cases (eqb b 0x2c) (λ e. simp e) (λ e. simp (e, upto_take s))

-- a comma is where they end
pub comma_here : (s : List ℕ) (i : ℕ) → i < length s → get_or s i 0 ≡ 0x2c → comma_from s i ≡ i
unfolding upto
comma_here s i h e = rw (drop-cons s i 0 h, eq-eqb (get_or s i 0) 0x2c e) (omega arith)

-- and no other byte
pub comma_later : (s : List ℕ) (i : ℕ) → i < length s → (get_or s i 0 ≡ 0x2c → ⊥) → comma_from s (i + 1) ≡ comma_from s i
unfolding upto
comma_later s i h e = rw (drop-cons s i 0 h, ne_eqb (get_or s i 0) 0x2c e, add-one i) (omega arith)

-- and the end
pub comma_end : (s : List ℕ) (i : ℕ) → length s ≤ i → comma_from s i ≡ i
unfolding upto
comma_end s i h = rw (drop_of_length-le s {i = i} h) (omega arith)

-- The texts of a line: the one up to the first comma, and those after it.
last_text : (s : List ℕ) → length (upto s) ≡ length s → split s ≡ upto s ∷ []
unfolding upto split push
last_text [] h = refl
last_text (b ∷ s) h =
    cases (eqb b 0x2c) (λ e. absurd (let z : ◌≡◌ {A = ℕ} 0 (suc (length s)) = simp e at h in omega arith))
    (λ e. let z : suc (length (upto s)) ≡ suc (length s) = simp e at h in simp (e, last_text s (omega arith)))

more_texts : (s : List ℕ) → length (upto s) < length s → split s ≡ upto s ∷ split (drop (suc (length (upto s))) s)
unfolding upto split push
more_texts [] h = absurd (omega arith)
more_texts (b ∷ s) h =
    cases (eqb b 0x2c) (λ e. simp e)
    (λ e. let z : suc (length (upto s)) < suc (length s) = simp e at h in simp (e, more_texts s (omega arith)))

-- The next comma is inside.
pub comma_most : (s : List ℕ) (from to : ℕ) → from ≤ length s → to ≡ comma_from s from → (from ≤ to) × (to ≤ length s)
comma_most s from to h q = (omega arith, omega (arith, upto_most (drop from s), length-drop from s))

module _ (c : Context) (s : List ℕ) (from to : ℕ) (h : from ≤ length s) (q : to ≡ comma_from s from) where
  size : to - from ≡ length (upto (drop from s))
  size = omega arith

  pub this_text : take (to - from) (drop from s) ≡ upto (drop from s)
  this_text = rw size (upto_take (drop from s))

  module _ (u : Rule) (m : u ≡ kept_rule) (n : ℕ) (g : n ≡ (read_field c u (take (to - from) (drop from s))).fault.number) where
    read : n ≡ (read_field c kept_rule (upto (drop from s))).fault.number
    read = g ∙ ap₂ (λ (v : Rule) (f : List ℕ). (read_field c v f).fault.number) m this_text

    all_texts : split (drop from s) ≡ upto (drop from s) ∷ [] → n ≡ 0 → texts_wrong c (split (drop from s)) ≡ 0
    unfolding texts_wrong
    all_texts e z = rw (e, ← read, eq-eqb n 0 z)

    -- a text that is wrong,
    pub wrong_text_here : (n ≡ 0 → ⊥) → texts_wrong c (split (drop from s)) ≡ n
    unfolding texts_wrong
    wrong_text_here z =
        cases (eqb (length (upto (drop from s))) (length (drop from s)))
        (λ e. rw (last_text (drop from s) (eqb-true _ _ e), ← read, ne_eqb n 0 z))
        (λ e.
        let k : length (upto (drop from s)) ≡ length (drop from s) → ⊥ = eqb-false _ _ e in
        rw (more_texts (drop from s) (omega (arith, k, upto_most (drop from s))), ← read, ne_eqb n 0 z))

    -- the last,
    pub no_text_more : to ≡ length s → n ≡ 0 → texts_wrong c (split (drop from s)) ≡ 0
    no_text_more e z = all_texts (last_text (drop from s) (omega (arith, length-drop from s))) z

    -- and one with others after it
    pub next_text : (to ≡ length s → ⊥) → n ≡ 0 → texts_wrong c (split (drop from s)) ≡ texts_wrong c (split (drop (to + 1) s))
    unfolding texts_wrong
    next_text e z =
        let k : from + suc (length (upto (drop from s))) ≡ to + 1 = omega arith in
        let d : drop (suc (length (upto (drop from s)))) (drop from s) ≡ drop (to + 1) s =
        drop-drop (suc (length (upto (drop from s)))) from s ∙ rw k in
        rw (more_texts (drop from s) (omega (arith, comma_most s from to h q, length-drop from s)), ← read, eq-eqb n 0 z, d)
