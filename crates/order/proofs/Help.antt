-- Which records put before a number help it: those that are needed in between, or the end of an RP and the beginning of another. For every
-- pair of a last number and a next one they are computed and tried.
-- Assumes nothing.
use Prim.Native.Nat.{ℕ, ◌≤◌, ◌<◌}
use mathlib.Core.Path.{◌≡◌, refl, ◌∙◌, sym, ap}
use mathlib.Core.Bool.{Bool, true, cond, ◌&&◌, ◌||◌}
use mathlib.Core.List.{List, [], ◌∷◌, ◌++◌}
use native.Mathlib.Omega.{arith}
use borrow.Author.Tests.{ltb-true, leb-true}
use lib.Dec.{ltb, leb}
use Rattle.order.specs.Order.{some, each, among, header, directions, drug, records, last_of}
use Rattle.order.specs.Next.{stops, between, skips, repeats, rises, anew, may}
use Rattle.cells.proofs.Split.{split}
use Rattle.cells.proofs.Alike.{and_parts as parts}
use Rattle.order.proofs.Bools.{either}
use Rattle.order.proofs.Lists.{there, every}
use Rattle.order.proofs.Chain.{step, runs, is_record, risen, begun, not_anew}

keep : (ℕ → Bool) → List ℕ → List ℕ
keep p [] = []
keep p (m ∷ ms) = cond (p m) (m ∷ keep p ms) (keep p ms)

-- from q on to a drug
pub finish : ℕ → List ℕ
finish q = cond (ltb q 201) (keep (ltb q) stops) (201 ∷ [])

-- from q on to where n may stand: what is needed in between, or first a drug and a new RP
pub helper : ℕ → ℕ → List ℕ
helper q n = cond (ltb q n) (keep (between q n) stops) (finish q ++ cond (ltb 101 n) (101 ∷ keep (between 101 n) stops) [])

finished : each (λ q. runs q (finish q) && leb 201 (last_of q (finish q))) (0 ∷ records) ≡ true
unfolding finish keep each runs step last_of some records stops header directions drug may anew rises repeats skips
finished = refl

helped : each (λ q. each (λ n. (leb n q && ltb n 101) || runs q (helper q n ++ (n ∷ []))) records) (0 ∷ records) ≡ true
unfolding helper finish keep each runs step last_of some records stops header directions drug may anew rises repeats skips
helped = refl

pub finishes : (q : ℕ) → among (0 ∷ records) q ≡ true → (runs q (finish q) ≡ true) × (201 ≤ last_of q (finish q))
finishes q h =
    let t = parts (runs q (finish q)) (leb 201 (last_of q (finish q))) (every (λ q. runs q (finish q) && leb 201 (last_of q (finish q))) (0 ∷ records) finished q h) in
    (t.0, leb-true 201 _ t.1)

pub helps : (q n : ℕ) → among (0 ∷ records) q ≡ true → among records n ≡ true → (n ≤ q → n < 101 → ⊥) → runs q (helper q n ++ (n ∷ [])) ≡ true
helps q n h k f =
    either (leb n q && ltb n 101) (runs q (helper q n ++ (n ∷ [])))
    (every (λ n. (leb n q && ltb n 101) || runs q (helper q n ++ (n ∷ []))) records (every (λ q. each (λ n. (leb n q && ltb n 101) || runs q (helper q n ++ (n ∷ []))) records) (0 ∷ records) helped q h) n k)
    (λ e. let t = parts (leb n q) (ltb n 101) e in absurd (f (leb-true n q t.0) (ltb-true n 101 t.1))) (λ e. e)

-- the last number of a chain is a record's, or the 0 it began at
pub a_record : (ns : List ℕ) (q : ℕ) → among (0 ∷ records) q ≡ true → runs q ns ≡ true → among (0 ∷ records) (last_of q ns) ≡ true
unfolding runs last_of
a_record [] q h k = h
a_record (n ∷ ns) q h k =
    let t = parts (step q n) (runs n ns) k in a_record ns n (there 0 n records (is_record q n t.0)) t.1

-- a header record after q that is not above it, and may not stand there: no records help
pub past_help : (w : List ℕ) (q n : ℕ) → n < 101 → n ≤ q → runs q (w ++ (n ∷ [])) ≡ true → step q n ≡ true
unfolding runs
past_help [] q n a b h = (parts (step q n) true h).0
past_help (x ∷ w) q n a b h =
    let t = parts (step q x) (runs x (w ++ (n ∷ []))) h in
    let i : n ≤ x = stays t.0 in
    let k : step x n ≡ true = past_help w x n a i t.1 in
    let u = risen x n k (not_anew x n (λ c d. omega arith)) in
    let e : x ≡ n = (u.same i).0 in
    ap (step q) (sym e) ∙ t.0
  where
    stays : step q x ≡ true → n ≤ x
    stays k = split (anew q x) (λ e. omega (arith, (begun q x e).1)) (λ e. omega (arith, (risen q x k e).up))
