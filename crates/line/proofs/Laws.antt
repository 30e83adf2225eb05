-- What holds of a file's frame and of the fields of a line, over the rules alone; and files worked by hand.
-- Each contract gives its answer by an equation, so that two answers that meet it are equal.
-- Assumes nothing.
use Prim.Native.Nat.{ℕ, zero, suc, ◌+◌, ◌-◌, ◌<◌, ◌≤◌}
use mathlib.Core.Path.{◌≡◌, refl, ◌∙◌, sym, ap, subst}
use mathlib.Core.Bool.{true}
use mathlib.Core.Logic.{◌↔◌}
use mathlib.Core.List.{List, [], ◌∷◌, ◌++◌, map}
use native.Mathlib.Nat.{zero-add, suc-add}
use native.Mathlib.Omega.{arith}
use borrow.Author.Tests.{leb-true, leb-false, ne_eqb, eqb-true, eqb-false}
use lib.Dec.{leb, eqb}
use lib.ListN.{length, get_or, take, drop, length-drop, take-append-drop}
use lib.Seq.{slice, take-take, take_at, take-nil, drop-drop, length-take-le}
use Rattle.cells.specs.Test.{fault}
use Rattle.cells.specs.declared.Fault.{Fault}
use Rattle.cells.proofs.Split.{split as cases}
use Rattle.line.specs.Frame.{plain, plain_line, WellFramed, Place, read, wrong, in_line, next, frame_from, frame_fault}
use Rattle.line.specs.Fields.{push, split, join, no_commas, line, field, field_end}
use Rattle.line.proofs.Steps.{field_end_lem, field_past}
use Rattle.line.proofs.Fields.{field_most, field_part, others, first_field, others_comma, others_none, and_parts, join_of_split, split_of_join}
use Rattle.line.proofs.Frame.{run, run_append, run_wrong, framed_run, run_framed, done, run_done, run_most, Stop, no_fault, by_run}

-- ---- the frame
unread : (w : List ℕ) (j : ℕ) → run 0 (take j w) ≡ wrong → WellFramed w → ⊥
unread w j h f =
    let e : run 0 w ≡ run (run 0 (take j w)) (drop j w) =
    ap (run 0) (sym (take-append-drop j w)) ∙ run_append 0 (take j w) (drop j w) in
    let z : wrong ≡ read = sym (run_wrong (drop j w)) ∙ ap (λ (n : ℕ). run n (drop j w)) (sym h) ∙ sym e ∙ framed_run w f in
    omega arith

placed : (s : List ℕ) (k : ℕ) → Stop 0 s k → Place s k
placed s k p =
    let m : run 0 (take k s) ≤ 4 = run_most (take k s) 0 (omega arith) in
    let n : run 0 (take k s) ≡ 4 → ⊥ = p.well in
    let d : List ℕ = done (run 0 (take k s)) in
    let l : length (take k s) ≡ k = length-take-le k s p.within in
    record {
      within = p.within;
      other = take k s ++ d;
      framed = run_framed (take k s ++ d) (run_append 0 (take k s) d ∙ run_done (run 0 (take k s)) (omega arith));
      agrees = take_at (take k s) d k l;
      none = λ b w f e. unread w (k + 1) (ap (run 0) e ∙ p.ill b) f;
      short = λ e f. p.short e (framed_run s f);
    }

-- There is no such place in a well framed file,
pub no_place : (s : List ℕ) (k : ℕ) → WellFramed s → Place s k → ⊥
no_place s k w p =
    cases (eqb k (length s)) (λ e. p.short (eqb-true k (length s) e) w)
    (λ e. let n : k ≡ length s → ⊥ = eqb-false k (length s) e in p.none (omega (arith, p.within)) s w refl)

not_before : (s : List ℕ) (j k : ℕ) → Place s j → Place s k → j < k → ⊥
not_before s j k p q l =
    p.none (omega (arith, q.within)) q.other q.framed
    (sym (take-take (j + 1) k q.other (omega arith)) ∙ ap (take (j + 1)) q.agrees ∙ take-take (j + 1) k s (omega arith))

-- and one in any other.
pub one_place : (s : List ℕ) (j k : ℕ) → Place s j → Place s k → j ≡ k
one_place s j k p q =
    let a : j < k → ⊥ = not_before s j k p q in let b : k < j → ⊥ = not_before s k j q p in omega arith

-- A file is well framed, and has no fault; or it has fault 21 at that place.
pub frame_cases : {P : Type 0} (s : List ℕ) → (WellFramed s → frame_fault s ≡ fault 0 0 → P) → ((k : ℕ) → Place s k → frame_fault s ≡ fault 21 k → P) → P
unfolding frame_fault
frame_cases s f g =
    by_run s 0 0 (omega arith) (λ h. f (run_framed s h) (no_fault s 0 0 h (omega arith)))
    (λ j e p. let z : 0 + j ≡ j = omega arith in g j (placed s j p) (e ∙ ap (fault 21) z))

-- A file has no fault exactly when it is well framed,
pub framed : (s : List ℕ) → (frame_fault s).number ≡ 0 ↔ WellFramed s
framed s =
    frame_cases s (λ f e. (λ h. f, λ w. ap (λ (r : Fault). r.number) e))
    (λ k p e. (λ h. absurd (let z : ◌≡◌ {A = ℕ} 21 0 = ap (λ (r : Fault). r.number) (sym e) ∙ h in omega arith), λ w. absurd (no_place s k w p)))

-- and where it has one, the place is as document 01 says.
pub frame_place : (s : List ℕ) (k : ℕ) → frame_fault s ≡ fault 21 k → Place s k
frame_place s k h =
    frame_cases s (λ f e. absurd (let z : ◌≡◌ {A = ℕ} 21 0 = ap (λ (r : Fault). r.number) (sym h ∙ e) in omega arith))
    (λ j p e. subst (Place s) (ap (λ (r : Fault). r.place) (sym e ∙ h)) p)

-- ---- fields
-- "Fields part at commas only": a line's fields, joined, are the line,
pub join_split : (l : List ℕ) → join (split l) ≡ l
join_split = join_of_split

-- and one or more fields without commas, joined, have these fields.
pub split_join : (fs : List (List ℕ)) → 1 ≤ length fs → no_commas fs ≡ true → split (join fs) ≡ fs
split_join [] l h = absurd (omega arith)
split_join (f ∷ fs) l h = split_of_join f fs h

-- A line of a file is what stands before its CR.
pub line_before : (l s : List ℕ) → plain_line l ≡ true → line (l ++ 0x0d ∷ s) ≡ l
unfolding line plain_line plain
line_before [] s h = refl
line_before (b ∷ l) s h =
    let k = and_parts (plain b) _ h in
    let m : 0x20 ≤ b = leb-true 0x20 b (and_parts (leb 0x20 b) _ k.0).0 in
    rw (ne_eqb b 0x0d (omega arith)) (ap (λ (t : List ℕ). b ∷ t) (line_before l s k.1))

take_drop : (n p : ℕ) (l : List ℕ) → take n (drop p l) ≡ drop p (take (p + n) l)
take_drop n zero l = rw zero-add
take_drop n (suc p) [] = rw suc-add (take-nil n)
take_drop n (suc p) (x ∷ l) = rw suc-add (take_drop n p l)

-- A part of the file from one offset to another is the bytes between them.
pub part : (s : List ℕ) (from to : ℕ) → from ≤ to → take (to - from) (drop from s) ≡ slice from to s
part s from to h =
    let e : from + (to - from) ≡ to = omega arith in
    take_drop (to - from) from s ∙ ap (λ (n : ℕ). drop from (take n s)) e

-- A field ends in the file,
pub end_most : (s : List ℕ) (at : ℕ) → field_end s at ≤ length s
end_most s at =
    cases (leb at (length s))
    (λ e. let h : at ≤ length s = leb-true at (length s) e in
    omega (arith, field_end_lem s at h, field_most (drop at s), length-drop at s))
    (λ e. omega (arith, field_past s at (leb-false at (length s) e)))

module _ (s : List ℕ) (at : ℕ) (h : at ≤ length s) where
  fields_at : split (line (drop at s)) ≡ slice at (field_end s at) s ∷ others (drop (field_end s at) s)
  fields_at =
      let n : ℕ = length (field (drop at s)) in
      let e : field_end s at ≡ at + n = field_end_lem s at h in
      let a : slice at (at + n) s ≡ field (drop at s) = sym (take_drop n at s) ∙ field_part (drop at s) in
      let b : drop (at + n) s ≡ drop n (drop at s) = sym (drop-drop n at s) in
      first_field (drop at s) ∙ rw (e, a, b)

  -- the fields of a line are the one that ends there and, after a comma, those from the next offset on;
  pub more_fields : field_end s at < length s → get_or s (field_end s at) 0 ≡ 0x2c →
      split (line (drop at s)) ≡ slice at (field_end s at) s ∷ split (line (drop (field_end s at + 1) s))
  more_fields l c = fields_at ∙ ap (λ (r : List (List ℕ)). slice at (field_end s at) s ∷ r) (others_comma s (field_end s at) l c)

  -- after anything else there are no more.
  pub last_field : (field_end s at < length s → get_or s (field_end s at) 0 ≡ 0x2c → ⊥) → split (line (drop at s)) ≡ slice at (field_end s at) s ∷ []
  last_field n = fields_at ∙ ap (λ (r : List (List ℕ)). slice at (field_end s at) s ∷ r) (others_none s (field_end s at) n)

-- ---- worked by hand
-- Bytes, and the fault of their frame.
pub record Row : Type 0 where
  pub bytes : List ℕ
  pub is : Fault

abbrev row : List ℕ → Fault → Row
row s f = record { bytes = s; is = f }

abbrev pub worked : List Row
worked =
    row (0x0d ∷ 0x0a ∷ 0x1a ∷ []) (fault 0 0) ∷
    row (0x41 ∷ 0x80 ∷ 0x0d ∷ 0x0a ∷ 0x0d ∷ 0x0a ∷ 0xff ∷ 0x0d ∷ 0x0a ∷ 0x1a ∷ []) (fault 0 0) ∷
    row [] (fault 21 0) ∷
    row (0x1a ∷ []) (fault 21 0) ∷
    row (0x0a ∷ []) (fault 21 0) ∷
    row (0x41 ∷ 0x0d ∷ 0x0d ∷ 0x0a ∷ 0x1a ∷ []) (fault 21 2) ∷
    row (0x41 ∷ 0x0a ∷ 0x1a ∷ []) (fault 21 1) ∷
    row (0x0d ∷ 0x0a ∷ 0x41 ∷ 0x1a ∷ []) (fault 21 3) ∷
    row (0x0d ∷ 0x0a ∷ 0x7f ∷ []) (fault 21 2) ∷
    row (0x0d ∷ 0x0a ∷ 0x1a ∷ 0x1a ∷ []) (fault 21 3) ∷
    row (0x41 ∷ 0x0d ∷ []) (fault 21 2) ∷
    row (0x41 ∷ 0x0d ∷ 0x0a ∷ []) (fault 21 3) ∷
    []

pub worked_right : map (λ r. frame_fault r.bytes) worked ≡ map (λ r. r.is) worked
unfolding frame_fault frame_from next in_line plain
worked_right = refl

-- "A last empty field keeps its comma": 5,,A and 22, and an empty line.
pub fields_right : map split ((0x35 ∷ 0x2c ∷ 0x2c ∷ 0x41 ∷ []) ∷ (0x32 ∷ 0x32 ∷ 0x2c ∷ []) ∷ [] ∷ []) ≡
    ((0x35 ∷ []) ∷ [] ∷ (0x41 ∷ []) ∷ []) ∷ ((0x32 ∷ 0x32 ∷ []) ∷ [] ∷ []) ∷ ([] ∷ []) ∷ []
unfolding split push
fields_right = refl
