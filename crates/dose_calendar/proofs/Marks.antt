-- The marks of the days that date codes name.
-- Assumes nothing.
use Prim.Native.Nat.{ℕ, ◌+◌, ◌*◌, ◌≤◌, ◌<◌}
use mathlib.Core.Path.{◌≡◌, refl, ◌∙◌, sym, ap}
use mathlib.Core.Bool.{Bool, true, false, ◌&&◌, ◌||◌}
use mathlib.Core.List.{List, [], ◌∷◌, ◌++◌, map}
use native.Mathlib.Omega.{arith}
use borrow.Author.Tests.{eqb-true, eqb-false, ltb-true, lt-ltb}
use lib.Dec.{eqb, ltb}
use lib.ListN.{length, get_or, drop, length-set, replicate, length-replicate, get_or-replicate}
use lib.Seq.{get_or-set_same, get_or-set_other}
use Rattle.cells.proofs.Split.{split}
use Rattle.cells.proofs.Alike.{and_right}
use Rattle.order.specs.Order.{some, among as stands}
use Rattle.days.specs.Run.{Code, code_of, days_at, upto0}
use Rattle.days.proofs.Named.{days_append}
use Rattle.days.proofs.Walk.{upto_more, upto_stop, upto_end}
use Rattle.supplement.specs.declared.Supplement.{Supplement}
use Rattle.course.specs.Calendar.{names}
use Rattle.course.specs.Kept.{place, Marks}
use Rattle.dose_calendar.specs.Code.Gather.{mark_day, mark_days, marked}

-- ---- what a supplement more names
or_over : (a b c : Bool) → (a || b) || c ≡ a || (b || c)
or_over true b c = refl
or_over false b c = refl

or_none : (a : Bool) → a ≡ a || false
or_none true = refl
or_none false = refl

stands_append : (xs ys : List ℕ) (d : ℕ) → stands (xs ++ ys) d ≡ (stands xs d || stands ys d)
unfolding some
stands_append [] ys d = refl
stands_append (x ∷ xs) ys d = ap (λ (b : Bool). eqb x d || b) (stands_append xs ys d) ∙ sym (or_over (eqb x d) (stands xs d) (stands ys d))

stands_one : (m d : ℕ) (c : Code) → stands (days_at m (c ∷ [])) d ≡ (eqb c.month m && stands c.days d)
unfolding days_at some
stands_one m d c = split (eqb c.month m) (λ e. rw e (stands_append c.days [] d ∙ sym (or_none _))) (λ e. rw e)

map-append : (xs : List Supplement) (x : Supplement) → map code_of (xs ++ (x ∷ [])) ≡ map code_of xs ++ (code_of x ∷ [])
map-append [] x = refl
map-append (y ∷ ys) x = ap (λ (l : List Code). code_of y ∷ l) (map-append ys x)

names_more : (xs : List Supplement) (x : Supplement) (m d : ℕ) →
    names (xs ++ (x ∷ [])) m d ≡ (names xs m d || (eqb (code_of x).month m && stands (code_of x).days d))
names_more xs x m d =
    ap (λ (l : List Code). stands (days_at m l) d) (map-append xs x)
    ∙ ap (λ (l : List ℕ). stands l d) (days_append m (map code_of xs) (code_of x ∷ []))
    ∙ stands_append (days_at m (map code_of xs)) (days_at m (code_of x ∷ [])) d
    ∙ ap (λ (b : Bool). names xs m d || b) (stands_one m d (code_of x))

-- ---- what a mark more says
pub length_day : (marks : List Bool) (m d : ℕ) → length (mark_day marks m d) ≡ length marks
length_day marks m d = split (ltb m 13 && ltb d 32) (λ e. rw e (length-set marks (place m d) true)) (λ e. rw e)

pub length_days : (marks : List Bool) (m : ℕ) (ds : List ℕ) → length (mark_days marks m ds) ≡ length marks
unfolding mark_days
length_days marks m [] = refl
length_days marks m (d ∷ ds) = length_days (mark_day marks m d) m ds ∙ length_day marks m d

or_true : (a : Bool) → a || true ≡ true
or_true true = refl
or_true false = refl

and-false : (a : Bool) → a && false ≡ false
and-false true = refl
and-false false = refl

module _ (marks : List Bool) (h : length marks ≡ 416) (m d k e : ℕ) (l : k < 13) (i : e < 32) where
  abbrev after_it : Bool
  after_it = get_or (mark_day marks m d) (place k e) false

  same_day : m ≡ k → d ≡ e → after_it ≡ true
  same_day p q =
      rw (p, q, lt-ltb k 13 l, lt-ltb e 32 i) (get_or-set_same marks (place k e) true false (omega (arith, h)))

  other_day : (m ≡ k → d ≡ e → ⊥) → after_it ≡ get_or marks (place k e) false
  other_day n =
      split (ltb m 13 && ltb d 32)
      (λ t. let u : d < 32 = ltb-true d 32 (and_right (ltb m 13) (ltb d 32) t) in
      rw t
      (get_or-set_other marks (place m d) (place k e) true false
      (λ q. let v : k * 32 + e ≡ m * 32 + d = q in n (omega arith) (omega arith))))
      (λ t. rw t)

  one_day : after_it ≡ (get_or marks (place k e) false || (eqb m k && eqb d e))
  one_day =
      split (eqb m k)
      (λ p. split (eqb d e)
      (λ q. rw (p, q) (same_day (eqb-true m k p) (eqb-true d e q) ∙ sym (or_true (get_or marks (place k e) false))))
      (λ q. rw (p, q) (other_day (λ u v. eqb-false d e q v) ∙ or_none (get_or marks (place k e) false))))
      (λ p. rw p (other_day (λ u v. eqb-false m k p u) ∙ or_none (get_or marks (place k e) false)))

both : (a b p q : Bool) → (a || (b && p)) || (b && q) ≡ a || (b && (p || q))
both a true p q = or_over a p q
both a false p q = sym (or_none (a || false))

days_marked : (marks : List Bool) (m : ℕ) (ds : List ℕ) → length marks ≡ 416 → (k e : ℕ) → k < 13 → e < 32 →
    get_or (mark_days marks m ds) (place k e) false ≡ (get_or marks (place k e) false || (eqb m k && stands ds e))
unfolding mark_days some
days_marked marks m [] h k e l i = or_none _ ∙ ap (λ (b : Bool). get_or marks (place k e) false || b) (sym (and-false (eqb m k)))
days_marked marks m (d ∷ ds) h k e l i =
    days_marked (mark_day marks m d) m ds (length_day marks m d ∙ h) k e l i
    ∙ ap (λ (b : Bool). b || (eqb m k && stands ds e)) (one_day marks h m d k e l i)
    ∙ both (get_or marks (place k e) false) (eqb m k) (eqb d e) (stands ds e)

-- ---- the marks of supplements
-- At first nothing is marked,
pub marks_none : Marks (replicate 416 false) []
unfolding days_at some
marks_none = record { places = length-replicate 416 false; each = λ m d l i. get_or-replicate 416 (place m d) false false (omega arith) }

-- and a supplement more marks its days.
pub marks_more : (marks : List Bool) (xs : List Supplement) (x : Supplement) → Marks marks xs → Marks (marked marks x) (xs ++ (x ∷ []))
marks_more marks xs x w =
    record {
      places = length_days marks (code_of x).month (code_of x).days ∙ w.places;
      each =
          λ m d l i.
          days_marked marks (code_of x).month (code_of x).days w.places m d l i
          ∙ ap (λ (b : Bool). b || (eqb (code_of x).month m && stands (code_of x).days d)) (w.each m d l i)
          ∙ sym (names_more xs x m d);
    }

-- ---- column by column
module _ (xs : List ℕ) (marks : List Bool) (m k : ℕ) where
  -- at the first 0, and behind the last column, nothing is left to mark
  pub at_zero : k < length xs → get_or xs k 0 ≡ 0 → marks ≡ mark_days marks m (upto0 (drop k xs))
  unfolding mark_days
  at_zero h z = sym (ap (λ (ds : List ℕ). mark_days marks m ds) (upto_stop xs k h z))

  pub at_end : length xs ≤ k → marks ≡ mark_days marks m (upto0 (drop k xs))
  unfolding mark_days
  at_end h = sym (ap (λ (ds : List ℕ). mark_days marks m ds) (upto_end xs k h))

  -- any other column is a day
  pub a_day : k < length xs → (get_or xs k 0 ≡ 0 → ⊥) → mark_days (mark_day marks m (get_or xs k 0)) m (upto0 (drop (k + 1) xs)) ≡ mark_days marks m (upto0 (drop k xs))
  unfolding mark_days
  a_day h z = sym (ap (λ (ds : List ℕ). mark_days marks m ds) (upto_more xs k h z))
