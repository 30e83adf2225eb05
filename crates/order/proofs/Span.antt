-- A part of a sheet takes the record numbers from lo on that are below hi: which are its own, which are needed and which repeats is
-- computed for each of the three parts, and what follows is proved once for all of them.
-- Assumes nothing.
use Prim.Native.Nat.{ℕ, ◌≤◌, ◌<◌}
use mathlib.Core.Path.{◌≡◌, refl, ◌∙◌, sym, ap}
use mathlib.Core.Bool.{Bool, true, ◌&&◌, ◌||◌}
use mathlib.Core.List.{List, [], ◌∷◌}
use native.Mathlib.Omega.{arith}
use borrow.Author.Tests.{ltb-true, leb-true, eqb-true, lt-ltb, eq-eqb}
use lib.Dec.{ltb, leb, eqb}
use Rattle.order.specs.Order.{some, each, among, Part, rising, allowed, header, directions, drug, records, last_of}
use Rattle.order.specs.Next.{stops, repeats, rises}
use Rattle.cells.proofs.Alike.{and_parts as parts}
use Rattle.order.proofs.Bools.{both, either, or_left, or_right}
use Rattle.order.proofs.Lists.{none, uncons, every}
use Rattle.order.proofs.Chain.{step, runs, rise}

abbrev pub outside : ℕ → ℕ → ℕ → Bool
outside lo hi n = ltb n lo || leb hi n

-- what is computed
pub record Span (p : Part) (lo hi : ℕ) : Type 0 where
  pub inside : each (λ n. among records n && (leb lo n && ltb n hi)) p.numbers ≡ true
  pub only : each (λ n. outside lo hi n || among p.numbers n) records ≡ true
  pub stop : each (λ m. among stops m && (leb lo m && ltb m hi)) p.needed ≡ true
  pub needs : each (λ m. (leb m lo || leb hi m) || among p.needed m) stops ≡ true
  pub repeat : repeats p.repeats ≡ true
  pub alone : each (λ n. outside lo hi n || eqb n p.repeats) (81 ∷ 181 ∷ 281 ∷ []) ≡ true

pub header_span : Span header 0 101
unfolding header directions drug records stops some each repeats
header_span = record { inside = refl; only = refl; stop = refl; needs = refl; repeat = refl; alone = refl }

pub directions_span : Span directions 101 201
unfolding header directions drug records stops some each repeats
directions_span = record { inside = refl; only = refl; stop = refl; needs = refl; repeat = refl; alone = refl }

pub drug_span : Span drug 201 282
unfolding header directions drug records stops some each repeats
drug_span = record { inside = refl; only = refl; stop = refl; needs = refl; repeat = refl; alone = refl }

-- the needed numbers of a part above q stand in a list
abbrev pub Left : Part → ℕ → List ℕ → Type 0
Left p q ns = (m : ℕ) → among p.needed m ≡ true → q < m → among ns m ≡ true

-- a number that rises is not below the one before it
climb : (r q n : ℕ) → ltb q n || (eqb q r && eqb n r) ≡ true → q ≤ n
climb r q n h =
    either (ltb q n) (eqb q r && eqb n r) h (λ e. omega (arith, ltb-true q n e))
    (λ e. let u = parts (eqb q r) (eqb n r) e in omega (arith, eqb-true q r u.0, eqb-true n r u.1))

-- nor is any number of a rising list below what it rises from
above : (r q m : ℕ) (ns : List ℕ) → rising r q ns ≡ true → among ns m ≡ true → q ≤ m
unfolding rising
above r q m [] h k = none m k
above r q m (n ∷ ns) h k =
    let t = parts (ltb q n || (eqb q r && eqb n r)) (rising r n ns) h in
    let i : q ≤ n = climb r q n t.0 in
    uncons n m ns k (λ e. omega arith) (λ l. let j : n ≤ m = above r n m ns t.1 l in omega arith)

module _ (p : Part) (lo hi : ℕ) (s : Span p lo hi) where
  own : (n : ℕ) → among p.numbers n ≡ true → (among records n ≡ true) × (lo ≤ n) × (n < hi)
  own n h =
      let t = parts (among records n) (leb lo n && ltb n hi) (every (λ n. among records n && (leb lo n && ltb n hi)) p.numbers s.inside n h) in
      let u = parts (leb lo n) (ltb n hi) t.1 in
      (t.0, leb-true lo n u.0, ltb-true n hi u.1)

  -- the needed records between two numbers of the part are the part's
  mine : (q n m : ℕ) → lo ≤ q → n ≤ hi → among stops m ≡ true → q < m → m < n → among p.needed m ≡ true
  mine q n m a b h i j =
      either (leb m lo || leb hi m) (among p.needed m) (every (λ m. (leb m lo || leb hi m) || among p.needed m) stops s.needs m h)
      (λ e. absurd (either (leb m lo) (leb hi m) e (λ x. omega (arith, leb-true m lo x)) (λ x. omega (arith, leb-true hi m x)))) (λ e. e)

  -- what a rising list of the part's numbers, with the needed ones that are left, comes to
  pub record Through (q : ℕ) (ns : List ℕ) : Type 0 where
    pub chain : runs q ns ≡ true
    pub from : lo ≤ last_of q ns
    pub upto : last_of q ns < hi
    pub full : Left p (last_of q ns) []

  pub through : (ns : List ℕ) (q : ℕ) → lo ≤ q → q < hi → each (among p.numbers) ns ≡ true → rising p.repeats q ns ≡ true → Left p q ns → Through q ns
  unfolding runs last_of each rising rises
  through [] q a b e r l = record { chain = refl; from = a; upto = b; full = l }
  through (n ∷ ns) q a b e r l = go (through ns n)
    where
      known : (among p.numbers n ≡ true) × (each (among p.numbers) ns ≡ true)
      known = parts (among p.numbers n) (each (among p.numbers) ns) e

      up : (ltb q n || (eqb q p.repeats && eqb n p.repeats) ≡ true) × (rising p.repeats n ns ≡ true)
      up = parts (ltb q n || (eqb q p.repeats && eqb n p.repeats)) (rising p.repeats n ns) r

      rises_here : rises q n ≡ true
      rises_here =
          either (ltb q n) (eqb q p.repeats && eqb n p.repeats) up.0 (λ t. or_left (eqb q n && repeats n) t)
          (λ t.
          let u = parts (eqb q p.repeats) (eqb n p.repeats) t in
          or_right (ltb q n) (both (eq-eqb q n (eqb-true q p.repeats u.0 ∙ sym (eqb-true n p.repeats u.1))) (ap repeats (eqb-true n p.repeats u.1) ∙ s.repeat)))

      left_here : Left p n ns
      left_here m h i =
          let j : q ≤ n = climb p.repeats q n up.0 in
          uncons n m ns (l m h (omega arith)) (λ x. absurd (omega arith)) (λ x. x)

      step_here : step q n ≡ true
      step_here =
          let o = own n known.0 in
          let b : n ≤ hi = omega arith in
          rise q n o.0 rises_here
          (λ m h i j. uncons n m ns (l m (mine q n m a b h i j) i) (λ x. omega arith) (λ x. omega (arith, above p.repeats n m ns up.1 x)))

      go : (lo ≤ n → n < hi → each (among p.numbers) ns ≡ true → rising p.repeats n ns ≡ true → Left p n ns → Through n ns) → Through q (n ∷ ns)
      go f =
          let o = own n known.0 in
          let t = f o.1 o.2 known.1 up.1 left_here in
          record { chain = both step_here t.chain; from = t.from; upto = t.upto; full = t.full }

  -- a part from its first number on: the header begins after 0, the others with a needed record that may stand there
  apart : (ns : List ℕ) → allowed p ns ≡ true → (each (among p.numbers) ns ≡ true) × (rising p.repeats 0 ns ≡ true) × (each (among ns) p.needed ≡ true)
  unfolding allowed
  apart ns h =
      let t = parts (each (among p.numbers) ns) (rising p.repeats 0 ns && each (among ns) p.needed) h in
      let u = parts (rising p.repeats 0 ns) (each (among ns) p.needed) t.1 in
      (t.0, u.0, u.1)

  pub at_start : (ns : List ℕ) → lo ≤ 0 → 0 < hi → allowed p ns ≡ true → Through 0 ns
  at_start ns a b h =
      let t = apart ns h in
      through ns 0 a b t.0 t.1 (λ m k i. every (among ns) p.needed t.2 m k)

  pub at_first : (ns : List ℕ) (q : ℕ) → among p.needed lo ≡ true → allowed p ns ≡ true → step q lo ≡ true → Through q ns
  unfolding runs last_of each rising
  at_first [] q n h k = none lo (every (among []) p.needed (apart [] h).2 lo n)
  at_first (x ∷ ns) q n h k =
      let t = apart (x ∷ ns) h in
      let e = parts (among p.numbers x) (each (among p.numbers) ns) t.0 in
      let r = parts (ltb 0 x || (eqb 0 p.repeats && eqb x p.repeats)) (rising p.repeats x ns) t.1 in
      let o = own x e.0 in
      let found : among (x ∷ ns) lo ≡ true = every (among (x ∷ ns)) p.needed t.2 lo n in
      let i : x ≤ lo = uncons x lo ns found (λ y. omega arith) (λ y. above p.repeats x lo ns r.1 y) in
      let same : x ≡ lo = omega (arith, o.1) in
      let u = through ns x o.1 o.2 e.1 r.1 (λ m g j. uncons x m ns (every (among (x ∷ ns)) p.needed t.2 m g) (λ y. absurd (omega arith)) (λ y. y)) in
      record { chain = both (ap (step q) same ∙ k) u.chain; from = u.from; upto = u.upto; full = u.full }

  -- what begins the next part may stand after the last number of this one
  pub leave : (q : ℕ) → lo ≤ q → q < hi → Left p q [] → among records hi ≡ true → step q hi ≡ true
  unfolding rises
  leave q a b l k =
      rise q hi k (or_left (eqb q hi && repeats hi) (lt-ltb q hi b)) (λ m h i j. none m (l m (mine q hi m a (omega arith) h i j) i))
