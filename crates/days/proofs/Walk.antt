-- A run read code by code: a code as numbers, and the steps of the two loops.
-- Assumes nothing.
use Prim.Native.Nat.{ℕ, suc, ◌+◌, ◌-◌, ◌*◌, ◌/◌, ◌%◌, ◌^◌, ◌≤◌, ◌<◌}
use mathlib.Core.Path.{◌≡◌, refl, sym, ap, ◌∙◌}
use mathlib.Core.Bool.{Bool, true, false, ◌&&◌}
use mathlib.Core.List.{List, [], ◌∷◌, ◌++◌, map, append-nil}
use native.Mathlib.Omega.{arith}
use native.Mathlib.Nat.{one-mul}
use native.Mathlib.Numerals.{add-one}
use borrow.Author.Tests.{eq-eqb, ne_eqb, eqb-true, eqb-false, leb-true, leb-false}
use lib.Dec.{eqb, leb, lit<}
use lib.ListN.{length, get_or, set, take, drop, length-drop, length-set as set_length, drop_of_length-le}
use lib.Pow.{pow_mono, shl_exact}
use lib.Seq.{drop-cons, drop-drop, append_snoc, ext_get_or, get_or-set_same, get_or-set_other}
use Rattle.cells.specs.Test.{Answer, took, refused}
use Rattle.cells.proofs.Split.{split}
use Rattle.cells.proofs.Alike.{and_left, and_right}
use Rattle.supplement.specs.Supplement.{last_day, read_supplement, said}
use Rattle.supplement.specs.declared.Days.{Days}
use Rattle.supplement.specs.declared.Supplement.{Supplement}
use Rattle.days.specs.Run.{Code, upto0, columns, six_of, code_of, goes_on, follows, allowed, eights, stopped, stop, codes_of, mask_of, days_at, set_of, no_days, concluded, answers_in, answered}
use Rattle.days.specs.declared.Date.{Date}
use Rattle.days.specs.declared.Halt.{Halt}
use Rattle.days.specs.declared.Last.{Last}
use Rattle.days.specs.Code.Good.{code, Good}
use Rattle.days.specs.Code.Walk.{Told, HasText, IsDate, Dated, may_follow, halt, step_at}
use Rattle.days.proofs.Under.{last_most}
use Rattle.days.proofs.Rising.{mask_below, mask_append}
use Rattle.days.proofs.Named.{Goods, goods_append, days_same, days_other, days_none, days_append, rise, length-set, set_at}
use Rattle.days.proofs.Text.{date, refused_some}
use Rattle.std.specs.Prelude.{Ok, Err, Result, Option, Some, None}
use Rattle.cells.specs.declared.Fault.{Fault}

-- ---- the days of a code, up to its first 0

module _ (xs : List ℕ) (k : ℕ) where
  pub upto_more : k < length xs → (get_or xs k 0 ≡ 0 → ⊥) → upto0 (drop k xs) ≡ get_or xs k 0 ∷ upto0 (drop (k + 1) xs)
  unfolding upto0
  upto_more h z = rw (drop-cons xs k 0 h, add-one) (simp (ne_eqb (get_or xs k 0) 0 z))

  pub upto_stop : k < length xs → get_or xs k 0 ≡ 0 → upto0 (drop k xs) ≡ []
  unfolding upto0
  upto_stop h z = rw (drop-cons xs k 0 h) (simp (eq-eqb (get_or xs k 0) 0 z))

  pub upto_end : length xs ≤ k → upto0 (drop k xs) ≡ []
  unfolding upto0
  upto_end h = rw (drop_of_length-le xs {i = k} h)

pub first_of : (x : ℕ) (xs : List ℕ) → x ≡ get_or (upto0 (x ∷ xs)) 0 0
unfolding upto0
first_of x xs = split (eqb x 0) (λ e. simp e (eqb-true _ _ e)) (λ e. simp e)

-- the days of a code that are left, after those seen: their mask
pub record Left (ds rest : List ℕ) (mask : ℕ) : Type 0 where
  pub masks : mask + mask_of rest ≡ mask_of ds

pub left_start : (ds : List ℕ) → Left ds ds 0
left_start ds = record { masks = omega arith }

module _ (ds rest : List ℕ) (mask : ℕ) (l : Left ds rest mask) where
  pub left_more : (rest' : List ℕ) (d : ℕ) → rest ≡ d ∷ rest' → Left ds rest' (mask + 2 ^ (d - 1))
  unfolding mask_of
  left_more rest' d e = record { masks = let a = ap mask_of e in omega (arith, l.masks) }

  -- the bit of a day that is left fits
  pub left_bit : (rest' : List ℕ) (d : ℕ) → rest ≡ d ∷ rest' → mask_of ds < 2147483648 → (mask + 2 ^ (d - 1) < 2147483648) × (d ≤ 31)
  unfolding mask_of
  left_bit rest' d e h =
      let a = ap mask_of e in
      let b : mask + 2 ^ (d - 1) < 2147483648 = omega (arith, l.masks) in (
        b,
        split (leb d 31) (λ t. leb-true _ _ t)
            (λ t. let g : 31 < d = leb-false _ _ t in let k : 31 ≤ d - 1 = omega arith in let p : 2 ^ 31 ≤ 2 ^ (d - 1) = pow_mono k in absurd (omega arith)),
      )

  pub left_end : rest ≡ [] → mask ≡ mask_of ds
  unfolding mask_of
  left_end e = let a = ap mask_of e in omega (arith, l.masks)

pub bit : (d : ℕ) → 1 ≤ d → d ≤ 31 → (1 * 2 ^ (d - 1)) % 4294967296 ≡ 2 ^ (d - 1)
bit d g h = let k : 1 + (d - 1) ≤ 32 = omega arith in shl_exact {a = 1} 1 (d - 1) 32 (lit< tt) k ∙ one-mul (2 ^ (d - 1))

pub good_below : (c : Code) → Good c → mask_of c.days < 2147483648
good_below c g =
    let a = mask_below (last_day c.month) c.days g.rises in
    let p : 2 ^ last_day c.month ≤ 2 ^ 31 = pow_mono (last_most c.month g.named) in
    omega arith

-- the columns of a good code from k on
module _ (m : ℕ) (x : Days) (g : Good (code m (six_of x))) (k mask : ℕ) (h : k < 6) (l : Left (six_of x) (upto0 (drop k (columns x))) mask) where
  pub day_fits : (get_or (columns x) k 0 ≡ 0 → ⊥) → (mask + 2 ^ (get_or (columns x) k 0 - 1) < 2147483648) × (get_or (columns x) k 0 ≤ 31)
  day_fits z =
      left_bit (six_of x) (upto0 (drop k (columns x))) mask l (upto0 (drop (k + 1) (columns x))) (get_or (columns x) k 0) (upto_more (columns x) k h z) (good_below (code m (six_of x)) g)

  pub day_next : (get_or (columns x) k 0 ≡ 0 → ⊥) →
      Left (six_of x) (upto0 (drop (k + 1) (columns x))) (mask + (1 * 2 ^ (get_or (columns x) k 0 - 1)) % 4294967296)
  day_next z =
      let f = day_fits z in
      let e = bit (get_or (columns x) k 0) (omega arith) f.1 in
      rw e (left_more (six_of x) (upto0 (drop k (columns x))) mask l (upto0 (drop (k + 1) (columns x))) (get_or (columns x) k 0) (upto_more (columns x) k h z))

-- what was read as a D code is good
pub good_read : (r : Result Supplement Fault) (x : Supplement) → HasText r → r ≡ Ok x → x.letter ≡ 68 → Good (code_of x)
good_read r x p e l = (date p.text x (sym p.reads ∙ ap said e) l).good

-- ---- which code may follow, by numbers

and-true : (b : Bool) → b && true ≡ b
and-true true = refl
and-true false = refl

-- a run with one code more
last_of_lem : (issue : ℕ) (xs : List Code) (a b : Code) → allowed issue (xs ++ (a ∷ [])) ≡ true → allowed issue (xs ++ (a ∷ b ∷ [])) ≡ follows issue a b
unfolding allowed
last_of_lem issue [] a b h = and-true (follows issue a b)
last_of_lem issue (x ∷ []) a b h = rw (and_left (follows issue x a) _ h) (and-true (follows issue a b))
last_of_lem issue (x ∷ y ∷ xs) a b h = rw (and_left (follows issue x y) _ h) (last_of_lem issue (y ∷ xs) a b (and_right (follows issue x y) _ h))

told_follows : (issue : ℕ) (x y : Code) (a b : Date) → Told x a → Told y b → follows issue x y ≡ may_follow issue (Some a) b
unfolding follows may_follow goes_on
told_follows issue x y a b p q = rw (p.ends, q.ends, q.first) refl

-- ---- the codes that are left

module _ (s : List ℕ) (at : ℕ) where
  answers_more : at + 8 ≤ length s → answers_in (drop at s) ≡ read_supplement (take 8 (drop at s)) ∷ answers_in (drop (at + 8) s)
  unfolding eights
  answers_more h =
      let n : length (drop at s) / 8 ≡ suc (length (drop (at + 8) s) / 8) = omega (arith, length-drop at s, length-drop (at + 8) s) in
      ap (λ (k : ℕ). map read_supplement (eights k (drop at s))) n
      ∙ ap (λ (t : List ℕ). read_supplement (take 8 (drop at s)) ∷ map read_supplement (eights (length (drop (at + 8) s) / 8) t)) (drop-drop 8 at s)

  answers_end : length s ≤ at → answers_in (drop at s) ≡ []
  unfolding eights
  answers_end h = rw (drop_of_length-le s {i = at} h)

-- ---- one code more

-- a code stops the run, or is a D code that goes on with it
pub data Step (issue k : ℕ) (seen : List Code) (a : Option Date) (r : Result (Option Date) Fault) (x : Answer Supplement) (more : List (Answer Supplement)) : Type 0 where
  stops : (h : Halt) → step_at issue k a r ≡ Err h → (h.number ≡ 0 → ⊥) → stop issue seen k (x ∷ more) ≡ stopped h.number h.place h.code → Step issue k seen a r x more
  goes : (c : Code) (d : Date) → step_at issue k a r ≡ Ok d → Good c → Told c d → allowed issue (seen ++ (c ∷ [])) ≡ true →
      stop issue seen k (x ∷ more) ≡ stop issue (seen ++ (c ∷ [])) (k + 1) more → codes_of (x ∷ more) ≡ c ∷ codes_of more → Step issue k seen a r x more

module _ (issue k : ℕ) (seen : List Code) (a : Option Date) (r : Result (Option Date) Fault) (more : List (Answer Supplement))
    (next : (y : Code) (d : Date) → Told y d → allowed issue (seen ++ (y ∷ [])) ≡ may_follow issue a d) where
  step_told : (x : Supplement) → Good (code_of x) → IsDate (code_of x) r → x.letter ≡ 68 → Step issue k seen a r (took x) more
  unfolding stop step_at codes_of
  step_told x g w l =
      let n = next (code_of x) w.date w.told in
      split (may_follow issue a w.date)
      (λ e. goes (code_of x) w.date (rw w.is (simp e)) g w.told (n ∙ e) (simp (eq-eqb _ _ l, n, e)) refl)
      (λ e. stops (halt 12 k 0) (rw w.is (simp e)) (λ q. omega arith) (simp (eq-eqb _ _ l, n, e)))

  step : (s : List ℕ) (x : Answer Supplement) → read_supplement s ≡ x → Dated x r → Step issue k seen a r x more
  unfolding stop step_at
  step s (refused n p) e h = stops (halt n p k) (rw h refl) (refused_some s n p e) refl
  step s (took x) e h =
      split (eqb x.letter 68) (λ t. step_told x (date s x e (eqb-true _ _ t)).good (rw t at h) (eqb-true _ _ t))
      (λ t. let q : r ≡ Ok None = rw t at h in stops (halt 12 k 0) (rw q refl) (λ z. omega arith) (simp t))

-- ---- the days so far, with those of one code more

-- a run's mask for a month fits
run_below : (issue : ℕ) (cs : List Code) (m : ℕ) → m ≤ 12 → Goods cs → allowed issue cs ≡ true → mask_of (days_at m cs) < 2147483648
unfolding allowed
run_below issue [] m h g k = absurd (let z : ◌≡◌ {A = ℕ} 0 1 = cc in omega arith)
run_below issue (c ∷ cs) m h g k =
    let a = mask_below (last_day m) (days_at m (c ∷ cs)) (rise issue cs c m g.0 g.1 k) in
    let p : 2 ^ last_day m ≤ 2 ^ 31 = pow_mono (last_most m h) in
    omega arith

module _ (seen : List Code) (c : Code) (d : Date) (t : Told c d) where
  mask_own : mask_of (days_at d.ends.month (seen ++ (c ∷ []))) ≡ mask_of (days_at d.ends.month seen) + d.mask
  mask_own =
      ap mask_of (days_append d.ends.month seen (c ∷ []) ∙ ap (λ (l : List ℕ). days_at d.ends.month seen ++ l) (days_same d.ends.month c [] (sym (ap (λ (l : Last). l.month) t.ends)) ∙ ap (λ (l : List ℕ). c.days ++ l) (days_none d.ends.month) ∙ append-nil c.days))
      ∙ mask_append (days_at d.ends.month seen) c.days ∙ ap (λ (n : ℕ). mask_of (days_at d.ends.month seen) + n) (sym t.mask)

  mask_other : (m : ℕ) → (d.ends.month ≡ m → ⊥) → mask_of (days_at m (seen ++ (c ∷ []))) ≡ mask_of (days_at m seen)
  mask_other m n = ap mask_of (days_append m seen (c ∷ []) ∙ ap (λ (l : List ℕ). days_at m seen ++ l) (days_other m c [] (λ e. n ((ap (λ (l : Last). l.month) t.ends) ∙ e)) ∙ days_none m) ∙ append-nil (days_at m seen))

  module _ (cells : List ℕ) (e : cells ≡ set_of seen) where
    cell : (m : ℕ) → m ≤ 12 → get_or cells m 0 ≡ mask_of (days_at m seen)
    cell m h = ap (λ (l : List ℕ). get_or l m 0) e ∙ set_at m seen h

    cells_own : d.ends.month ≤ 12 → get_or cells d.ends.month 0 + d.mask ≡ mask_of (days_at d.ends.month (seen ++ (c ∷ [])))
    cells_own h = omega (arith, cell d.ends.month h, mask_own)

    set_more : d.ends.month ≤ 12 → set cells d.ends.month (get_or cells d.ends.month 0 + d.mask) ≡ set_of (seen ++ (c ∷ []))
    set_more h =
        let n : length cells ≡ 13 = ap length e ∙ length-set seen in
        let o : length (set cells d.ends.month (get_or cells d.ends.month 0 + d.mask)) ≡ 13 = set_length cells d.ends.month (get_or cells d.ends.month 0 + d.mask) ∙ n in
        ext_get_or 0 (set cells d.ends.month (get_or cells d.ends.month 0 + d.mask)) (set_of (seen ++ (c ∷ []))) (o ∙ sym (length-set (seen ++ (c ∷ []))))
        (λ m l.
        let q = set_at m (seen ++ (c ∷ [])) (omega arith) in
        split (eqb d.ends.month m)
        (λ x.
        let i : d.ends.month ≡ m = eqb-true _ _ x in
        ap (λ (k : ℕ). get_or (set cells d.ends.month (get_or cells d.ends.month 0 + d.mask)) k 0) (sym i)
        ∙ get_or-set_same cells d.ends.month (get_or cells d.ends.month 0 + d.mask) 0 (omega arith) ∙ cells_own h ∙ ap (λ (k : ℕ). mask_of (days_at k (seen ++ (c ∷ [])))) i ∙ sym q)
        (λ x.
        let z = eqb-false d.ends.month m x in
        get_or-set_other cells d.ends.month m (get_or cells d.ends.month 0 + d.mask) 0 (λ y. z (sym y)) ∙ cell m (omega arith) ∙ sym (mask_other m z) ∙ sym q))

-- ---- the loop: what has been seen of a run, and what is left of it

pub record Walked (issue : ℕ) (s : List ℕ) (k : ℕ) (a : Option Date) (cells : List ℕ) : Type 0 where
  pub seen : List Code
  pub good : Goods seen
  pub next : (y : Code) (d : Date) → Told y d → allowed issue (seen ++ (y ∷ [])) ≡ may_follow issue a d
  pub set : cells ≡ set_of seen
  pub left : stop issue seen (k + 1) (answers_in (drop (8 * k) s)) ≡ stop issue [] 1 (answers_in s)
  pub codes : seen ++ codes_of (answers_in (drop (8 * k) s)) ≡ codes_of (answers_in s)

pub walk_start : (issue : ℕ) (s : List ℕ) → Walked issue s 0 None no_days
unfolding allowed may_follow set_of days_at mask_of
walk_start issue s = record { seen = []; good = tt; next = λ y d t. refl; set = refl; left = refl; codes = refl }

module _ (issue : ℕ) (s : List ℕ) (k : ℕ) (a : Option Date) (cells : List ℕ) (w : Walked issue s k a cells) where
  module _ (r : Result (Option Date) Fault) (room : 8 * k + 8 ≤ length s) (h : Dated (read_supplement (take 8 (drop (8 * k) s))) r) where
    here : Step issue (k + 1) w.seen a r (read_supplement (take 8 (drop (8 * k) s))) (answers_in (drop (8 * k + 8) s))
    here = step issue (k + 1) w.seen a r (answers_in (drop (8 * k + 8) s)) (λ y d t. w.next y d t) (take 8 (drop (8 * k) s)) (read_supplement (take 8 (drop (8 * k) s))) refl h

    left_here : stop issue w.seen (k + 1) (read_supplement (take 8 (drop (8 * k) s)) ∷ answers_in (drop (8 * k + 8) s)) ≡ stop issue [] 1 (answers_in s)
    left_here = ap (stop issue w.seen (k + 1)) (sym (answers_more s (8 * k) room)) ∙ w.left

    -- a code that stops the run
    pub walk_stop : (e : Halt) → step_at issue (k + 1) a r ≡ Err e → Err e ≡ answered (concluded (stop issue [] 1 (answers_in s)) (set_of (codes_of (answers_in s))))
    walk_stop e q = go here
      where
        go : Step issue (k + 1) w.seen a r (read_supplement (take 8 (drop (8 * k) s))) (answers_in (drop (8 * k + 8) s)) →
            Err e ≡ answered (concluded (stop issue [] 1 (answers_in s)) (set_of (codes_of (answers_in s))))
        go (stops f p n t) =
            let i : e ≡ f = cc in
            let z : eqb f.number 0 ≡ false = ne_eqb _ _ n in
            rw i (simp (sym left_here ∙ t, z))
        go (goes c d p g t f u v) = absurd (let z : ◌≡◌ {A = Result Date Halt} (Err e) (Ok d) = cc in cc)

    -- a code that goes on with it: its days fit into the set, and the walk goes on behind it
    pub walk_on : (d : Date) → step_at issue (k + 1) a r ≡ Ok d →
        (d.ends.month ≤ 12) × (get_or cells d.ends.month 0 + d.mask < 2 ^ 32) × Walked issue s (k + 1) (Some d) (set cells d.ends.month (get_or cells d.ends.month 0 + d.mask))
    walk_on d z = go here
      where
        go : Step issue (k + 1) w.seen a r (read_supplement (take 8 (drop (8 * k) s))) (answers_in (drop (8 * k + 8) s)) →
            (d.ends.month ≤ 12) × (get_or cells d.ends.month 0 + d.mask < 2 ^ 32) × Walked issue s (k + 1) (Some d) (set cells d.ends.month (get_or cells d.ends.month 0 + d.mask))
        go (stops f p n t) = absurd (let y : ◌≡◌ {A = Result Date Halt} (Err f) (Ok d) = cc in cc)
        go (goes c b p g u f e q) =
            let i : b ≡ d = cc in
            let t : Told c d = rw i at u in
            let m : d.ends.month ≤ 12 = let x = ap (λ (l : Last). l.month) t.ends in let y = g.named in omega arith in
            let gs : Goods (w.seen ++ (c ∷ [])) = goods_append w.seen (c ∷ []) w.good (g, tt) in
            let b = run_below issue (w.seen ++ (c ∷ [])) d.ends.month m gs f in
            let j : 8 * k + 8 ≡ 8 * (k + 1) = omega arith in (
              m,
              omega (arith, cells_own w.seen c d t cells w.set m),
              record {
                seen = w.seen ++ (c ∷ []);
                good = gs;
                next = λ y x u. ap (allowed issue) (append_snoc w.seen c (y ∷ [])) ∙ last_of_lem issue w.seen c y f ∙ told_follows issue c y d x t u;
                set = set_more w.seen c d t cells w.set m;
                left = rw (sym j) (sym e ∙ left_here);
                codes = rw (sym j) (append_snoc w.seen c (codes_of (answers_in (drop (8 * k + 8) s))) ∙ ap (λ (l : List Code). w.seen ++ l) (sym q) ∙ ap (λ (l : List (Answer Supplement)). w.seen ++ codes_of l) (sym (answers_more s (8 * k) room)) ∙ w.codes);
              },
            )

  -- the end of the run
  pub walk_end : length s ≤ 8 * k → Ok (record { cells = cells }) ≡ answered (concluded (stop issue [] 1 (answers_in s)) (set_of (codes_of (answers_in s))))
  unfolding stop codes_of
  walk_end h =
      let z = answers_end s (8 * k) h in
      let e : stop issue [] 1 (answers_in s) ≡ stopped 0 0 0 = sym w.left ∙ ap (stop issue w.seen (k + 1)) z in
      let q : w.seen ≡ codes_of (answers_in s) = sym (append-nil w.seen) ∙ ap (λ (l : List (Answer Supplement)). w.seen ++ codes_of l) (sym z) ∙ w.codes in
      let c : cells ≡ set_of (codes_of (answers_in s)) = w.set ∙ ap set_of q in
      simp e (ap (λ (l : List ℕ). Ok (record { cells = l })) c)
