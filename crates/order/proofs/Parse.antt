-- A chain of record numbers that ends where a file may end is a sheet. Read from its end on: what stands after a number is the rest of
-- that number's part, and then what may follow the part.
-- Assumes nothing.
use Prim.Native.Nat.{ℕ, ◌≤◌, ◌<◌}
use mathlib.Core.Path.{◌≡◌, refl, ◌∙◌, sym, ap}
use mathlib.Core.Bool.{Bool, true, false, ◌&&◌, ◌||◌}
use mathlib.Core.List.{List, [], ◌∷◌, ◌++◌, append_assoc, append-nil}
use native.Mathlib.Omega.{arith}
use borrow.Author.Tests.{ltb-true, ltb-false, leb-true, eqb-true, eqb-false, lt-ltb, le-leb}
use lib.Dec.{ltb, leb, eqb}
use Rattle.order.specs.Order.{some, each, among, Part, rising, allowed, Stands, header, directions, drug, OneOrMore, last, more, Rp, rp, Sheet, sheet, records, last_of}
use Rattle.order.specs.Next.{stops, repeats, anew}
use Rattle.cells.proofs.Split.{split}
use Rattle.cells.proofs.Alike.{and_parts as parts}
use Rattle.order.proofs.Bools.{both, either, or_left, or_right}
use Rattle.order.proofs.Numbers.{all_below}
use Rattle.order.proofs.Lists.{none, uncons, here, there, every, all}
use Rattle.order.proofs.Chain.{step, runs, is_record, Rise, risen, not_anew}
use Rattle.order.proofs.Span.{Span, header_span, directions_span, drug_span, outside, Left}

-- the rest of a part after its number q, and then a list of a kind
pub data Rest (p : Part) (K : List ℕ → Type 0) (q : ℕ) : List ℕ → Type 0 where
  rest : (a : List ℕ) {c : List ℕ} → each (among p.numbers) a ≡ true → rising p.repeats q a ≡ true → Left p q a → K c → Rest p K q (a ++ c)

-- a step cannot lead past a needed record
over : (q n hi : ℕ) → Rise q n → q < hi → hi ≤ n → among stops hi ≡ true → hi ≡ n
over q n hi u a b h = split (ltb hi n) (λ t. absurd (u.gap hi h a (ltb-true hi n t))) (λ t. omega (arith, ltb-false hi n t))

-- the records that may repeat, as a list
three : (n : ℕ) → repeats n ≡ true → among (81 ∷ 181 ∷ 281 ∷ []) n ≡ true
unfolding repeats some
three n h =
    either (eqb n 81) (eqb n 181 || eqb n 281) h (λ e. rw (eqb-true n 81 e) refl)
    (λ k. either (eqb n 181) (eqb n 281) k (λ e. rw (eqb-true n 181 e) refl) (λ e. rw (eqb-true n 281 e) refl))

-- a number from lo on and below hi is not outside
within : (lo hi n : ℕ) (b : Bool) → lo ≤ n → n < hi → outside lo hi n || b ≡ true → b ≡ true
within lo hi n b i j h =
    either (outside lo hi n) b h
    (λ e. absurd (either (ltb n lo) (leb hi n) e (λ x. omega (arith, ltb-true n lo x)) (λ x. omega (arith, leb-true hi n x)))) (λ e. e)

module _ (p : Part) (lo hi : ℕ) (s : Span p lo hi) (K : List ℕ → Type 0) where
  -- such a record number is the part's own, and the one that repeats is the part's
  own : (n : ℕ) → among records n ≡ true → lo ≤ n → n < hi → among p.numbers n ≡ true
  own n h a b = within lo hi n (among p.numbers n) a b (every (λ n. outside lo hi n || among p.numbers n) records s.only n h)

  twice : (n : ℕ) → repeats n ≡ true → lo ≤ n → n < hi → eqb n p.repeats ≡ true
  twice n h a b =
      within lo hi n (eqb n p.repeats) a b (every (λ n. outside lo hi n || eqb n p.repeats) (81 ∷ 181 ∷ 281 ∷ []) s.alone n (three n h))

  -- what the part needs is never left out
  stop_of : (m : ℕ) → among p.needed m ≡ true → (among stops m ≡ true) × (lo ≤ m) × (m < hi)
  stop_of m h =
      let t = parts (among stops m) (leb lo m && ltb m hi) (every (λ m. among stops m && (leb lo m && ltb m hi)) p.needed s.stop m h) in
      let u = parts (leb lo m) (ltb m hi) t.1 in
      (t.0, leb-true lo m u.0, ltb-true m hi u.1)

  -- one number more in front
  grow : (q n : ℕ) {ns : List ℕ} → step q n ≡ true → anew q n ≡ false → lo ≤ n → n < hi → Rest p K n ns → Rest p K q (n ∷ ns)
  unfolding each rising
  grow q n h o a b (rest x e r l k) =
      let u = risen q n h o in
      let rises : ltb q n || (eqb q p.repeats && eqb n p.repeats) ≡ true =
      split (ltb q n) (λ t. or_left (eqb q p.repeats && eqb n p.repeats) t)
      (λ t.
      let v = u.same (ltb-false q n t) in
      let w = twice n v.1 a b in
      or_right (ltb q n) (both (ap (λ (y : ℕ). eqb y p.repeats) v.0 ∙ w) w)) in
      rest (n ∷ x) (both (own n (is_record q n h) a b) e) (both rises r)
      (λ m g i.
      split (ltb n m) (λ t. there n m x (l m g (ltb-true n m t)))
      (λ t.
      let j : m ≤ n = ltb-false n m t in
      split (eqb n m) (λ y. rw (eqb-true n m y) (here m x))
      (λ y. absurd (u.gap m (stop_of m g).0 i (omega (arith, eqb-false n m y))))))
      k

  -- the part ends here, since nothing needed is left
  done : (q : ℕ) {ns : List ℕ} → ((m : ℕ) → among p.needed m ≡ true → q < m → ⊥) → K ns → Rest p K q ns
  unfolding each rising
  done q f k = rest [] refl refl (λ m g i. absurd (f m g i)) k

  -- a step stays in the part, or leads to the needed record that comes next
  along : (q n : ℕ) {ns : List ℕ} → step q n ≡ true → anew q n ≡ false → q < hi → among stops hi ≡ true → lo ≤ n → (n < hi → Rest p K n ns) → (hi ≡ n → K (n ∷ ns)) → Rest p K q (n ∷ ns)
  along q n h o i g a f k =
      let u = risen q n h o in
      split (ltb n hi) (λ t. let j : n < hi = ltb-true n hi t in grow q n h o a j (f j))
      (λ t.
      let e : hi ≡ n = over q n hi u i (ltb-false n hi t) g in
      done q (λ m y j. let v = stop_of m y in u.gap m v.0 j (omega (arith, v.2))) (k e))

  -- with its first number in front the rest of a part is the part
  first : (a : List ℕ) → among p.numbers lo ≡ true → 0 < lo → each (among p.numbers) a ≡ true → rising p.repeats lo a ≡ true → Left p lo a → Stands p (lo ∷ a)
  unfolding allowed each rising
  first a h z e r l =
      both (both h e)
      (both (both (or_left (eqb 0 p.repeats && eqb lo p.repeats) (lt-ltb 0 lo z)) r)
      (all (among (lo ∷ a)) p.needed
      (λ m g.
      let i : lo ≤ m = (stop_of m g).1 in
      split (eqb lo m) (λ y. rw (eqb-true lo m y) (here m a)) (λ y. there lo m a (l m g (omega (arith, eqb-false lo m y)))))))

-- what may follow a drug: nothing, a drug and what may follow that, RPs
pub data After : List ℕ → Type 0 where
  nothing : After []
  drugs : (a : List ℕ) {c : List ℕ} → Stands drug a → After c → After (a ++ c)
  rps : {c : List ℕ} → OneOrMore Rp c → After c

-- what follows the head of an RP
pub data Drugs : List ℕ → Type 0 where
  start : (a : List ℕ) {c : List ℕ} → Stands drug a → After c → Drugs (a ++ c)

-- the same in the grammar's grouping: drugs, then RPs or nothing
data Grouped : List ℕ → Type 0 where
  ends : {b : List ℕ} → OneOrMore (Stands drug) b → Grouped b
  goes : {b d : List ℕ} → OneOrMore (Stands drug) b → OneOrMore Rp d → Grouped (b ++ d)

-- another drug in front; the records of an RP in front
put : (a : List ℕ) {ns : List ℕ} → Stands drug a → Grouped ns → Grouped (a ++ ns)
put a h (ends ds) = ends (more h ds)
put a h (goes {b} {d} ds rs) = rw (← append_assoc a b d) (goes (more h ds) rs)

grouped : (a : List ℕ) {c : List ℕ} → Stands drug a → After c → Grouped (a ++ c)
grouped a h nothing = rw append-nil (ends (last h))
grouped a h (drugs b k r) = put a h (grouped b k r)
grouped a h (rps rs) = goes (last h) rs

rp_of : (a : List ℕ) {ns : List ℕ} → Stands directions a → Grouped ns → OneOrMore Rp (a ++ ns)
rp_of a h (ends ds) = last (rp a h ds)
rp_of a h (goes {b} {d} ds rs) = rw (← append_assoc a b d) (more (rp a h ds) rs)

-- a part's first number, in front of what stands after it
new_drug : {ns : List ℕ} → Rest drug After 201 ns → Drugs (201 ∷ ns)
unfolding drug some
new_drug (rest a e r l k) = start (201 ∷ a) (first _ _ _ drug_span After a refl (omega arith) e r l) k

new_rp : {ns : List ℕ} → Rest directions Drugs 101 ns → OneOrMore Rp (101 ∷ ns)
unfolding directions some
new_rp (rest a e r l (start b h k)) = rp_of (101 ∷ a) (first _ _ _ directions_span Drugs a refl (omega arith) e r l) (grouped b h k)

-- another drug may follow a drug
as_after : {ns : List ℕ} → Drugs ns → After ns
as_after (start a h k) = drugs a h k

positive : each (ltb 0) header.needed ≡ true
unfolding header each
positive = refl

new_sheet : {ns : List ℕ} → Rest header (OneOrMore Rp) 0 ns → Sheet ns
unfolding allowed
new_sheet (rest a e r l k) = sheet a (both e (both r (all (among a) header.needed (λ m g. l m g (above_0 m g))))) k
  where
    above_0 : (m : ℕ) → among header.needed m ≡ true → 0 < m
    above_0 m g = ltb-true 0 m (every (ltb 0) header.needed positive m g)

-- what stands after q, by the part that q is of
pub record Parsed (q : ℕ) (ns : List ℕ) : Type 0 where
  pub in_header : q < 101 → Rest header (OneOrMore Rp) q ns
  pub in_directions : 101 ≤ q → q < 201 → Rest directions Drugs q ns
  pub in_drug : 201 ≤ q → Rest drug After q ns

stop_101 : among stops 101 ≡ true
unfolding stops header directions drug some
stop_101 = refl

stop_201 : among stops 201 ≡ true
unfolding stops header directions drug some
stop_201 = refl

-- nothing that a drug needs is left after its first number
no_more : (m : ℕ) → among drug.needed m ≡ true → m ≡ 201
unfolding drug
no_more m h = uncons 201 m [] h (λ e. sym e) (λ k. none m k)

-- one number more in front, by the part of the number before it
module _ (q n : ℕ) (ns : List ℕ) (h : step q n ≡ true) (t : Parsed n ns) where
  header_step : q < 101 → Rest header (OneOrMore Rp) q (n ∷ ns)
  header_step i =
      along _ _ _ header_span (OneOrMore Rp) q n h (not_anew q n (λ a b. omega arith)) i stop_101 (omega arith) t.in_header
      (λ e. rw (sym e) (new_rp (rw (sym e) at (t.in_directions (omega arith) (omega arith)))))

  directions_step : 101 ≤ q → q < 201 → Rest directions Drugs q (n ∷ ns)
  directions_step l i =
      let o = not_anew q n (λ a b. omega arith) in
      let f : 101 ≤ n = omega (arith, (risen q n h o).up) in
      along _ _ _ directions_span Drugs q n h o i stop_201 f (t.in_directions f)
      (λ e. rw (sym e) (new_drug (rw (sym e) at (t.in_drug (omega arith)))))

  drug_step : 201 ≤ q → Rest drug After q (n ∷ ns)
  unfolding anew
  drug_step l =
      split (eqb n 101)
      (λ a. let e : n ≡ 101 = eqb-true n 101 a in closed (rw e (rps (new_rp (rw e at (t.in_directions (omega arith) (omega arith)))))))
      (λ a.
      split (eqb n 201)
      (λ b. let e : n ≡ 201 = eqb-true n 201 b in closed (rw e (as_after (new_drug (rw e at (t.in_drug (omega arith)))))))
      (λ b.
      let o : anew q n ≡ false = simp (le-leb 201 q l, a, b) in
      let f : 201 ≤ n = omega (arith, (risen q n h o).up) in
      grow _ _ _ drug_span After q n h o f (ltb-true n 282 (every (λ n. ltb n 282) records all_below n (is_record q n h))) (t.in_drug f)))
    where
      closed : {xs : List ℕ} → After xs → Rest drug After q xs
      closed k = done _ _ _ drug_span After q (λ m g j. omega (arith, no_more m g)) k

-- A chain is read so,
pub parse : (ns : List ℕ) (q : ℕ) → runs q ns ≡ true → 201 ≤ last_of q ns → Parsed q ns
unfolding runs last_of
parse [] q h l =
    record {
      in_header = λ i. absurd (omega arith);
      in_directions = λ a i. absurd (omega arith);
      in_drug = λ a. done _ _ _ drug_span After q (λ m g j. omega (arith, no_more m g)) nothing;
    }
parse (n ∷ ns) q h l =
    let k = parts (step q n) (runs n ns) h in
    let t = parse ns n k.1 l in
    record { in_header = header_step q n ns k.0 t; in_directions = directions_step q n ns k.0 t; in_drug = drug_step q n ns k.0 t }

-- and from 0 on it is a sheet.
pub a_sheet : (ns : List ℕ) → runs 0 ns ≡ true → 201 ≤ last_of 0 ns → Sheet ns
a_sheet ns h l = new_sheet ((parse ns 0 h l).in_header (omega arith))
