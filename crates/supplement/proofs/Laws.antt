-- What holds of reading supplementary codes. (`Rattle.supplement_writer.proofs.Laws` has what holds of reading and writing together.)
-- Assumes nothing.
use Prim.Native.Nat.{ℕ, suc, ◌+◌, ◌-◌, ◌≤◌}
use mathlib.Core.Path.{◌≡◌, refl, ◌∙◌, sym, ap}
use mathlib.Core.Bool.{true, cond}
use mathlib.Core.Logic.{◌↔◌}
use mathlib.Core.List.{List}
use native.Mathlib.Omega.{arith}
use borrow.Author.Tests.{eqb-true}
use lib.Dec.{eqb}
use lib.ListN.{length, get_or, drop, length-drop}
use Rattle.cells.specs.Test.{first, fault, Answer, refused, judge}
use Rattle.cells.specs.Text.{among}
use Rattle.cells.specs.Cells.{char, cells}
use Rattle.cells.specs.declared.Fault.{Fault}
use Rattle.cells.proofs.Split.{split}
use Rattle.cells.proofs.Alike.{each}
use Rattle.supplement.specs.Supplement.{tests, says, read_supplement, said}
use Rattle.supplement.specs.Amount.{Allowed, Agrees, nothing, columns}
use Rattle.supplement.specs.declared.Supplement.{Supplement}
use Rattle.supplement.proofs.Shape.{stop, over, allowed, fine, stopped}
use Rattle.std.specs.Prelude.{Err, Ok, Result}

-- Two answers of the reader that say the same are equal.
pub one_reading : (a b : Result Supplement Fault) → said a ≡ said b → a ≡ b
one_reading (Ok x) (Ok y) h = let e : x ≡ y = cc in ap Ok e
one_reading (Ok x) (Err f) h = absurd (let z : ◌≡◌ {A = ℕ} 0 1 = cc in omega arith)
one_reading (Err f) (Ok y) h = absurd (let z : ◌≡◌ {A = ℕ} 0 1 = cc in omega arith)
one_reading (Err f) (Err g) h =
    let n : f.number ≡ g.number = cc in
    let p : f.place ≡ g.place = cc in
    ap Err (λ i. record { number = n i; place = p i })

-- The six columns of a V code have no fault exactly where they are an allowed amount.
pub amount_taken : (s : List ℕ) → length s ≡ 8 → ((first (cells 6 2 (columns nothing 6 2 s) s)).number ≡ 0) ↔ Allowed (drop 2 s)
amount_taken s l =
    let e : (first (cells 6 2 (columns nothing 6 2 s) s)).number ≡ (stop nothing 2 (drop 2 s)).number = ap (λ (f : Fault). f.number) (over s l) in
    (λ h. allowed (drop 2 s) 2 (simp length-drop (omega arith)) (sym e ∙ h), λ a. e ∙ fine (drop 2 s) 2 a)

-- "5 names the first column at which no allowed amount agrees": where their first fault is n at p, n is 5, some allowed amount agrees with the
-- columns before the place p, and none agrees with those and the one at p.
pub amount_place : (s : List ℕ) (n p : ℕ) → length s ≡ 8 → first (cells 6 2 (columns nothing 6 2 s) s) ≡ fault n p → (n ≡ 0 → ⊥) →
    (n ≡ 5) × (3 ≤ p) × Agrees (p - 3) (drop 2 s) × (Agrees (p - 3 + 1) (drop 2 s) → ⊥)
amount_place s n p l h z =
    let r = stopped (drop 2 s) nothing 2 (λ k. z (sym (ap (λ (f : Fault). f.number) h) ∙ ap (λ (f : Fault). f.number) (over s l) ∙ k)) in
    let e : fault n p ≡ fault 5 (2 + 1 + r.k) = sym h ∙ over s l ∙ r.here in
    let m : n ≡ 5 = ap (λ (f : Fault). f.number) e in
    let q : p ≡ 2 + 1 + r.k = ap (λ (f : Fault). f.place) e in
    let k : p - 3 ≡ r.k = omega arith in
    let j : p - 3 + 1 ≡ suc r.k = omega arith in
    let six : length (drop 2 s) ≡ 6 = simp length-drop (omega arith) in (
      m,
      omega arith,
      record { amount = r.other; allowed = allowed r.other 2 (r.long ∙ six) r.fine; same = rw k r.same },
      λ a. r.none a.amount (a.allowed.six ∙ sym six) (rw j at a.same) (fine a.amount 2 a.allowed),
    )

refused_at : (f : Fault) (x : Supplement) (n p : ℕ) → judge f x ≡ refused n p → f ≡ fault n p
refused_at f x n p h =
    split (eqb f.number 0) (λ e. absurd (let k = simp e at h in let z : ◌≡◌ {A = ℕ} 0 1 = cc in omega arith))
    (λ e. let k : ◌≡◌ {A = Answer Supplement} (refused f.number f.place) (refused n p) = simp e at h in
    let a : f.number ≡ n = cc in
    let b : f.place ≡ p = cc in
    λ i. record { number = a i; place = b i })

-- So it is of the V code itself: where it is refused by 5 at the place of a column, some allowed amount agrees with the columns before that place,
-- and none with those and the one there.
pub amount_refused : (s : List ℕ) (p : ℕ) → among "V" (char s 1) ≡ true → read_supplement s ≡ refused 5 p → 3 ≤ p →
    Agrees (p - 3) (drop 2 s) × (Agrees (p - 3 + 1) (drop 2 s) → ⊥)
unfolding read_supplement among cells first
amount_refused s p v h l =
    split (eqb (length s) 8) (λ e. by_order (eqb-true _ _ e) (refused_at (first (tests s)) (says s) 5 p (simp e at h)))
    (λ e. absurd (let k : ◌≡◌ {A = Answer Supplement} (refused 1 0) (refused 5 p) = simp e at h in let z : ◌≡◌ {A = ℕ} 1 5 = cc in omega arith))
  where
    letter : get_or s 0 0 ≡ 86
    letter = each (λ c. c) (λ c. 86) "V" refl (get_or s 0 0) v

    by_order : length s ≡ 8 → first (tests s) ≡ fault 5 p → Agrees (p - 3) (drop 2 s) × (Agrees (p - 3 + 1) (drop 2 s) → ⊥)
    by_order long f =
        let k : cond (among "12345" (get_or s 1 0)) (first (cells 6 2 (columns nothing 6 2 s) s)) (fault 5 2) ≡ fault 5 p = simp letter at f in
        split (among "12345" (get_or s 1 0)) (λ o. let r = amount_place s 5 p long (simp o at k) (λ z. omega arith) in (r.2, r.3))
        (λ o. absurd (let q : fault 5 2 ≡ fault 5 p = simp o at k in let z : 2 ≡ p = ap (λ (f : Fault). f.place) q in omega arith))
