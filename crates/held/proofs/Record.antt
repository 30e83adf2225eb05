-- A record that is taken is written as the parts that it was read from, by its number.
-- Assumes nothing.
use Prim.Native.Nat.{ℕ, zero, suc, ◌+◌, ◌-◌, ◌<◌, ◌≤◌}
use mathlib.Core.Path.{◌≡◌, refl, ◌∙◌, sym, ap, subst}
use mathlib.Core.Bool.{true, false}
use mathlib.Core.List.{List, [], ◌∷◌, ◌++◌, map}
use native.Mathlib.Omega.{arith}
use borrow.Author.Tests.{eqb-true, le-leb}
use lib.Dec.{eqb}
use lib.ListN.{length, get_or, drop, length-append, length-drop}
use Rattle.cells.proofs.Split.{split as cases}
use Rattle.cells.proofs.Alike.{and_left}
use Rattle.line.specs.Fields.{split, join, nth}
use Rattle.line.proofs.Laws.{split_join}
use Rattle.number.specs.Number.{shortest, read_number}
use Rattle.number.specs.Print.{print_number}
use Rattle.field.specs.Field.{Context, valued}
use Rattle.row.specs.Table.{typed, rules_from, rules, only_with}
use Rattle.record.specs.Record.{text_at, record_from}
use Rattle.record_line.specs.Fields.{offset, place_of, record_of}
use Rattle.record_line.specs.Line.{number_in, read_parts}
use Rattle.record.specs.declared.Place.{Place}
use Rattle.record.specs.declared.Record.{Record}
use Rattle.record_line.proofs.Stands.{stands, all_stand, after_first}
use Rattle.text.specs.Lent.{text_or}
use Rattle.held.specs.Held.{text, held_by, held, lent_text, lent_held, print, parts, print_record}
use Rattle.held.proofs.Field.{number_back, optional_back, amount_back, date_back, usage_back, supplement_back}
use Rattle.held.proofs.Row.{placed, by_places, Fine}
use Rattle.held.proofs.Taken.{taken, not_0, number_stood}
use Rattle.held.proofs.Plain.{row_fits}
use Rattle.std.specs.Prelude.{Ok}

-- Texts are written as they stand.
pub texts : (fs : List (List ℕ)) → map print (map text fs) ≡ fs
texts [] = refl
texts (f ∷ fs) = ap (λ (r : List (List ℕ)). f ∷ r) (texts fs)

-- ---- by the record's number
-- The bytes at the places of fields are the fields, however a place is read.
pub record Reads (read : Place → List ℕ) (at : ℕ) (fs : List (List ℕ)) : Type 0 where
  pub one : (k : ℕ) → k - 1 < length fs → read (place_of at k fs) ≡ nth k fs
  pub all : read (record { from = at; to = at + length (join fs) }) ≡ join fs

module _ (last : ℕ) (c : Context) (read : Place → List ℕ) (at : ℕ) (fs : List (List ℕ)) (s : Reads read at fs) where
  -- the record of a number and these fields is written as its number and the fields
  Written : ℕ → Type 0
  Written n = parts (held_by read (record_of n at fs)) ≡ print_number n ∷ fs

  -- its values, written, are the fields
  line_of_lem : (n : ℕ) (vs : List (List ℕ)) → vs ≡ fs → print_number n ∷ vs ≡ print_number n ∷ fs
  line_of_lem n vs e = ap (λ (r : List (List ℕ)). print_number n ∷ r) e

  written51 : Fine c 51 fs → Written 51
  unfolding Written record_of record_from typed rules rules_from placed
  written51 w =
      let l : length fs ≡ 1 = w.count in
      line_of_lem 51 _ ((λ i. date_back c (nth 1 fs) (w.passes 0 (omega arith)) i ∷ []) ∙ by_places 1 fs l)

  written101 : Fine c 101 fs → Written 101
  unfolding Written record_of record_from typed rules rules_from placed valued
  written101 w =
      let l : length fs ≡ 4 = w.count in
      line_of_lem 101 _
      ((λ i. number_back c 9 1 999 (λ f v. v) (nth 1 fs) (w.passes 0 (omega arith)) i ∷
      number_back c 7 1 99 (λ f v. v) (nth 2 fs) (w.passes 1 (omega arith)) i ∷
      s.one 3 (omega arith) i ∷
      number_back c 7 1 999 (λ f v. v) (nth 4 fs) (w.passes 3 (omega arith)) i ∷ [])
      ∙ by_places 4 fs l)

  written111 : Fine c 111 fs → Written 111
  unfolding Written record_of record_from typed rules rules_from placed valued
  written111 w =
      let l : length fs ≡ 5 = w.count in
      line_of_lem 111 _
      ((λ i. number_back c 10 1 999 (λ f v. v) (nth 1 fs) (w.passes 0 (omega arith)) i ∷
      number_back c 7 1 2 (λ f v. v) (nth 2 fs) (w.passes 1 (omega arith)) i ∷
      usage_back c (only_with 0x32 (nth 2 fs)) (nth 3 fs) (w.passes 2 (omega arith)) i ∷
      s.one 4 (omega arith) i ∷
      optional_back c 99 (nth 5 fs) (w.passes 4 (omega arith)) i ∷ [])
      ∙ by_places 5 fs l)

  written181 : Fine c 181 fs → Written 181
  unfolding Written record_of record_from typed rules rules_from placed valued
  written181 w =
      let l : length fs ≡ 6 = w.count in
      line_of_lem 181 _
      ((λ i. number_back c 10 1 999 (λ f v. v) (nth 1 fs) (w.passes 0 (omega arith)) i ∷
      number_back c 12 1 99 (λ f v. v) (nth 2 fs) (w.passes 1 (omega arith)) i ∷
      optional_back c 99 (nth 3 fs) (w.passes 2 (omega arith)) i ∷
      s.one 4 (omega arith) i ∷
      supplement_back c (only_with 0x38 (nth 3 fs)) (nth 5 fs) (w.passes 4 (omega arith)) i ∷
      s.one 6 (omega arith) i ∷ [])
      ∙ by_places 6 fs l)

  written201 : Fine c 201 fs → Written 201
  unfolding Written record_of record_from typed rules rules_from placed valued
  written201 w =
      let l : length fs ≡ 9 = w.count in
      line_of_lem 201 _
      ((λ i. number_back c 10 1 999 (λ f v. v) (nth 1 fs) (w.passes 0 (omega arith)) i ∷
      number_back c 11 1 99 (λ f v. v) (nth 2 fs) (w.passes 1 (omega arith)) i ∷
      optional_back c 3 (nth 3 fs) (w.passes 2 (omega arith)) i ∷
      number_back c 8 1 7 (λ f v. and_left _ _ v) (nth 4 fs) (w.passes 3 (omega arith)) i ∷
      s.one 5 (omega arith) i ∷
      s.one 6 (omega arith) i ∷
      amount_back c (nth 7 fs) (w.passes 6 (omega arith)) i ∷
      number_back c 7 1 2 (λ f v. v) (nth 8 fs) (w.passes 7 (omega arith)) i ∷
      s.one 9 (omega arith) i ∷ [])
      ∙ by_places 9 fs l)

  -- the fields of a record that is kept are parted as they were joined
  written_kept : (n : ℕ) → Fine c n fs → eqb n 51 ≡ false → eqb n 101 ≡ false → eqb n 111 ≡ false → eqb n 181 ≡ false → eqb n 201 ≡ false → Written n
  unfolding Written record_of record_from typed
  written_kept n w a b d e f =
      simp (a, b, d, e, f)
      (line_of_lem n _
      (texts _ ∙ ap split s.all ∙ split_join fs w.some (row_fits last c n fs w).commas))

  -- a number that is one of the table's
  is : (n m : ℕ) → eqb n m ≡ true → (Fine c m fs → Written m) → Fine c n fs → Written n
  is n m e f w =
      let q : n ≡ m = eqb-true n m e in
      subst Written (sym q) (f (subst (λ (k : ℕ). Fine c k fs) q w))

  -- every number
  written : (n : ℕ) → Fine c n fs → parts (held_by read (record_of n at fs)) ≡ print_number n ∷ fs
  unfolding Written
  written n w =
      cases (eqb n 51) (λ e. is n 51 e written51 w)
      (λ a. cases (eqb n 101) (λ e. is n 101 e written101 w)
      (λ b. cases (eqb n 111) (λ e. is n 111 e written111 w)
      (λ d. cases (eqb n 181) (λ e. is n 181 e written181 w)
      (λ e. cases (eqb n 201) (λ f. is n 201 f written201 w) (λ f. written_kept n w a b d e f)))))

-- ---- the bytes of a file, and lent bytes
-- a field ends where they all do, or before
field_ends : (fs : List (List ℕ)) (k : ℕ) → k < length fs → offset k fs + length (get_or fs k []) ≤ length (join fs)
unfolding offset join
field_ends [] k l = absurd (omega arith)
field_ends (f ∷ []) zero l = omega arith
field_ends (f ∷ []) (suc k) l = absurd (omega arith)
field_ends (f ∷ g ∷ fs) zero l = omega (arith, length-append f (0x2c ∷ join (g ∷ fs)))
field_ends (f ∷ g ∷ fs) (suc k) l = omega (arith, length-append f (0x2c ∷ join (g ∷ fs)), field_ends (g ∷ fs) k (omega arith))

-- a place inside is read alike
inside : (s : List ℕ) (p : Place) → p.from ≤ p.to → p.to ≤ length s → lent_text s p ≡ text_at s p
unfolding lent_text text_or
inside s p l m = rw (le-leb p.from p.to l, le-leb p.to (length s) m)

module _ (s : List ℕ) (at : ℕ) (fs : List (List ℕ)) (rest : List ℕ) (h : drop at s ≡ join fs ++ rest) where
  file_reads : Reads (text_at s) at fs
  file_reads = record { one = stands s at fs rest h; all = all_stand s at fs rest h }

  lent_reads : at ≤ length s → Reads (lent_text s) at fs
  lent_reads l =
      let m : at + length (join fs) ≤ length s = omega (arith, length-drop at s, ap length h, length-append (join fs) rest) in
      record {
        one =
            λ k i. inside s (place_of at k fs) (omega arith) (omega (arith, field_ends fs (k - 1) i)) ∙ stands s at fs rest h k i;
        all = inside s (record { from = at; to = at + length (join fs) }) (omega arith) m ∙ all_stand s at fs rest h;
      }

-- ---- a line that is taken
module _ (last : ℕ) (c : Context) where
  -- however its places are read
  by_parts : (read : Place → List ℕ) (at : ℕ) (p : List ℕ) (fs : List (List ℕ)) (r : Record) → read_parts last c at (p ∷ fs) ≡ Ok r →
      (1 ≤ length fs → Reads read (at + length p + 1) fs) → parts (held_by read r) ≡ p ∷ fs
  unfolding read_parts
  by_parts read at p fs r h s =
      let n : ℕ = number_in (read_number 1 999 p) in
      let from : ℕ = at + length p + 1 in
      let t = taken last c at n from fs r h in
      ap (λ (q : Record). parts (held_by read q)) (sym t.is)
      ∙ written last c read from fs (s t.fine.some) n t.fine
      ∙ ap (λ (q : List ℕ). q ∷ fs) (number_stood last c p (read_number 1 999 p) refl t.follows)

  no_parts : {P : Type 0} (at : ℕ) (r : Record) → read_parts last c at [] ≡ Ok r → P
  unfolding read_parts read_number shortest
  no_parts at r h = not_0 last c (taken last c at 0 _ [] r h).follows

  module _ (s : List ℕ) (at : ℕ) (rest : List ℕ) (r : Record) where
    -- A record that is taken from parts which stand in the file is written as the parts,
    pub parts_back : (ps : List (List ℕ)) → read_parts last c at ps ≡ Ok r → drop at s ≡ join ps ++ rest → parts (held s r) ≡ ps
    parts_back [] h e = no_parts at r h
    parts_back (p ∷ fs) h e =
        by_parts (text_at s) at p fs r h (λ l. file_reads s (at + length p + 1) fs rest (after_first s p at fs rest l e))

    -- also where the file is lent beside it,
    pub lent_back : (ps : List (List ℕ)) → read_parts last c at ps ≡ Ok r → drop at s ≡ join ps ++ rest → at + length (join ps) ≤ length s → parts (lent_held s r) ≡ ps
    unfolding join
    lent_back [] h e m = no_parts at r h
    lent_back (p ∷ []) h e m = by_parts (lent_text s) at p [] r h (λ l. absurd (omega arith))
    lent_back (p ∷ f ∷ fs) h e m =
        by_parts (lent_text s) at p (f ∷ fs) r h
        (λ l. lent_reads s (at + length p + 1) (f ∷ fs) rest (after_first s p at (f ∷ fs) rest l e)
        (omega (arith, length-append p (0x2c ∷ join (f ∷ fs)))))

    -- and so as the line.
    pub record_back : (ps : List (List ℕ)) → read_parts last c at ps ≡ Ok r → drop at s ≡ join ps ++ rest → print_record (held s r) ≡ join ps
    unfolding print_record
    record_back ps h e = ap join (parts_back ps h e)
