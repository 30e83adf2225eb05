-- What holds of the parts of a record's line, over the rules alone.
-- Assumes nothing.
use Prim.Native.Nat.{ℕ, ◌-◌, ◌≤◌}
use mathlib.Core.Path.{◌≡◌, refl, ◌∙◌, sym, ap, ap₂}
use mathlib.Core.Bool.{true, false, cond}
use mathlib.Core.List.{List, [], ◌∷◌, ◌++◌, map}
use native.Mathlib.Nat.{sub-zero}
use native.Mathlib.Omega.{arith}
use borrow.Author.Tests.{eqb-true, le-leb}
use lib.Dec.{eqb}
use lib.ListN.{length, get_or, replicate, length-map, length-append}
use lib.Seq.{take-append_seam}
use Rattle.text.specs.Lent.{no_field, text_or}
use Rattle.cells.specs.Text.{bytes}
use Rattle.cells.specs.Same.{eqs}
use Rattle.cells.proofs.Split.{split as cases}
use Rattle.line.specs.Fields.{split, join}
use Rattle.line.proofs.Laws.{join_split, part}
use Rattle.number.specs.Print.{print_number, print_amount}
use Rattle.order.proofs.Bools.{clash}
use Rattle.field.specs.Field.{Context, forbidden, new_rp, own_rp, number, code_kind, drug_serial, supplement_serial, required, free, read_field}
use Rattle.field.specs.declared.Rule.{Rule}
use Rattle.row.specs.Table.{mark, only_with, drug_code_need, name_need, typed, rules111, rules181, rules201, rules_from, rules_of, table_of}
use Rattle.laid.specs.Laid.{Laid, parts_most, text_bytes, part_bytes}
use Rattle.printed.specs.Printed.{date_field}
use Rattle.record_line.specs.Line.{read_parts}
use Rattle.record.specs.declared.Place.{Place}
use Rattle.record.specs.declared.Kept.{Kept}
use Rattle.record.specs.declared.Refusal.{Refusal}
use Rattle.record.specs.declared.Record.{Record}
use Rattle.record.specs.declared.Record.TheVariants.{Issue, Rp, Usage, Supplement as Supply, Drug, Kept as KeptRecord}
use Rattle.held.specs.Held.{lent_text, lent_held, optional, usage_value, supplement_value, print, parts, print_record}
use Rattle.held.proofs.Record.{texts}
use Rattle.entry.specs.Entry.{kind_of, part_number, from_of, to_of, optional_part, part_list, Parts, parts_of, number_in, entry_of}
use Rattle.entry.specs.Code.Judge.{number_for, laid_in, parts_from, kind_mark, part_wrong, wrong_from, wrong_typed, wrong_in}
use Rattle.entry.proofs.Bridge.{some_field, join_more, first_wrong, typed_wrong, kept_wrong}
use Rattle.entry.proofs.Bridge as bridge
use Rattle.entry.proofs.Judged.{mark_is, number_judged}
use Rattle.std.specs.Prelude.{Err}

-- a kept record's number is none of the table's
untyped : (n : ℕ) → typed (cond (typed n) 0 n) ≡ false
unfolding typed
untyped n = cases (typed n) (λ e. rw e) (λ e. rw e e)

-- ---- the parts and the line
-- the characters of a record's own, at the front of its own bytes,
abbrev owned_bytes : List ℕ → List ℕ
owned_bytes f = f ++ replicate (24 - length f) 0

own_bytes : (f : List ℕ) → text_or (owned_bytes f) no_field 0 (length f) ≡ f
unfolding text_or
own_bytes f =
    rw (le-leb 0 (length f) (omega arith), le-leb (length f) (length (owned_bytes f)) (omega (arith, length-append f (replicate (24 - length f) 0))))
    (sym (part (owned_bytes f) 0 (length f) (omega arith)) ∙ rw sub-zero (take-append_seam f (replicate (24 - length f) 0)))

-- a text in the lent bytes,
pub text_bytes_lem : (lent : List ℕ) (p : Place) → text_or lent no_field p.from p.to ≡ lent_text lent p
unfolding lent_text
text_bytes_lem lent p = refl

-- a text of no byte,
no_bytes : (lent : List ℕ) → text_or lent no_field 0 0 ≡ []
unfolding text_or
no_bytes lent = rw (le-leb 0 (length lent) (omega arith))

-- and a number that may be empty
optional_bytes : (lent own : List ℕ) (n : ℕ) →
    part_bytes lent own (kind_of (optional_part n)) (part_number (optional_part n)) (from_of (optional_part n)) (to_of (optional_part n)) ≡ print (optional n)
unfolding part_bytes text_bytes
optional_bytes lent own n = cases (eqb n 0) (λ e. simp e (no_bytes lent)) (λ e. simp e)

-- Of a typed record the parts are its number and its fields.
texts_of : (lent : List ℕ) (r : Record) → typed (lent_held lent r).number ≡ true → parts_from lent (laid_in (parts_of r)) (length (part_list r)) 0 ≡ parts (lent_held lent r)
unfolding parts_from part_bytes text_bytes
texts_of lent (Issue x) t = λ i. print_number 51 ∷ own_bytes (date_field x.date) i ∷ []
texts_of lent (Rp x) t =
    λ i. print_number 101 ∷ print_number x.rp.0 ∷ print_number x.form ∷ text_bytes_lem lent x.name i ∷ print_number x.quantity ∷ []
texts_of lent (Usage x) t =
    let o : List ℕ = print (usage_value x.code) in
    λ i.
    print_number 111 ∷
    print_number x.rp.0 ∷
    print_number x.kind ∷
    own_bytes o i ∷
    text_bytes_lem lent x.name i ∷
    optional_bytes lent (owned_bytes o) x.times i ∷ []
texts_of lent (Supply x) t =
    let o : List ℕ = print (supplement_value x.code) in
    λ i.
    print_number 181 ∷
    print_number x.rp.0 ∷
    print_number x.serial.0 ∷
    optional_bytes lent (owned_bytes o) x.kind i ∷
    text_bytes_lem lent x.text i ∷
    own_bytes o i ∷
    text_bytes_lem lent x.site i ∷ []
texts_of lent (Drug x) t =
    let o : List ℕ = print_amount x.amount in
    λ i.
    print_number 201 ∷
    print_number x.rp.0 ∷
    print_number x.serial.0 ∷
    optional_bytes lent (owned_bytes o) x.kind i ∷
    print_number x.coding ∷
    text_bytes_lem lent x.code i ∷
    text_bytes_lem lent x.name i ∷
    own_bytes o i ∷
    print_number x.flag ∷
    text_bytes_lem lent x.unit i ∷ []
texts_of lent (KeptRecord x) t = clash t (untyped x.number)

-- The parts with commas between them are the record's line,
pub line_of_lem : (lent : List ℕ) (r : Record) → join (parts_from lent (laid_in (parts_of r)) (length (part_list r)) 0) ≡ print_record (lent_held lent r)
unfolding print_record join typed parts_from part_bytes text_bytes
line_of_lem lent (Issue x) = ap join (texts_of lent (Issue x) refl)
line_of_lem lent (Rp x) = ap join (texts_of lent (Rp x) refl)
line_of_lem lent (Usage x) = ap join (texts_of lent (Usage x) refl)
line_of_lem lent (Supply x) = ap join (texts_of lent (Supply x) refl)
line_of_lem lent (Drug x) = ap join (texts_of lent (Drug x) refl)
line_of_lem lent (KeptRecord x) =
    let n : List ℕ = print_number (lent_held lent (KeptRecord x)).number in
    let s : List ℕ = lent_text lent x.fields in
    (λ i. n ++ 0x2c ∷ (text_bytes_lem lent x.fields ∙ sym (join_split s)) i)
    ∙ sym (join_more n (split s) (some_field s))
    ∙ ap (λ (fs : List (List ℕ)). join (n ∷ fs)) (sym (texts (split s)))

-- the first is the record's number,
pub first_number : (r : Record) → get_or (parts_of r).numbers 0 0 ≡ number_for r
first_number (Issue x) = refl
first_number (Rp x) = refl
first_number (Usage x) = refl
first_number (Supply x) = refl
first_number (Drug x) = refl
first_number (KeptRecord x) = refl

-- and there are one or more of them, no more than a line has.
pub few : (r : Record) → (1 ≤ length (part_list r)) × (length (part_list r) ≤ parts_most)
few (Issue x) = omega arith
few (Rp x) = omega arith
few (Usage x) = omega arith
few (Supply x) = omega arith
few (Drug x) = omega arith
few (KeptRecord x) = omega arith

-- The parts of a record whose kind is known.
pub known_parts : {k r : Record} {p : Parts} → r ≡ k → p ≡ parts_of k → p ≡ parts_of r
known_parts h e = e ∙ ap parts_of (sym h)

-- A number that may be empty is held as itself.
pub optional_number : (n : ℕ) → n ≡ part_number (optional_part n)
optional_number n = cases (eqb n 0) (λ e. simp e (eqb-true _ _ e)) (λ e. simp e)

pub optional_from : (n : ℕ) → 0 ≡ from_of (optional_part n)
optional_from n = cases (eqb n 0) (λ e. simp e) (λ e. simp e)

pub optional_to : (n : ℕ) → 0 ≡ to_of (optional_part n)
optional_to n = cases (eqb n 0) (λ e. simp e) (λ e. simp e)

-- ---- what the reader would say
-- The number of a refusal does not go by the place,
pub anywhere : (last : ℕ) (c : Context) (at : ℕ) (ps : List (List ℕ)) → number_in (read_parts last c at ps) ≡ number_in (read_parts last c 0 ps)
anywhere = bridge.anywhere

-- and is never 0.
pub refused_some : (last : ℕ) (c : Context) (at : ℕ) (ps : List (List ℕ)) (f : Refusal) → read_parts last c at ps ≡ Err f → f.fault.number ≡ 0 → ⊥
refused_some = bridge.refused_some

-- the kind that may be empty
mark_optional : (k : ℕ) → mark (kind_mark (kind_of (optional_part k)) (part_number (optional_part k)) ∷ []) ≡ mark (print (optional k))
unfolding mark kind_mark
mark_optional k = cases (eqb k 0) (λ e. simp e) (λ e. simp e (mark_is k))

-- so whether fields may be empty goes by the kind that is held
kind_need : (named : ℕ) (k m : List ℕ) → mark k ≡ mark m → only_with named k ≡ only_with named m
unfolding only_with
kind_need named k m h = λ i. cond (eqb (h i) named) required forbidden

drug_need : (k m : List ℕ) → mark k ≡ mark m → drug_code_need k ≡ drug_code_need m
unfolding drug_code_need
drug_need k m h = λ i. cond (eqb (h i) 0x31) forbidden (cond (eqb (h i) 0x37) free required)

name_need_lem : (k m f g : List ℕ) → mark k ≡ mark m → f ≡ g → name_need k f ≡ name_need m g
unfolding name_need
name_need_lem k m f g h e = λ i. cond (eqs (e i) (bytes "777770000")) required (cond (eqb (h i) 0x32) free required)

-- the first wrong one of some fields, and of others in which the same is wrong
next : {w v rest more : ℕ} → w ≡ v → rest ≡ more → cond (eqb w 0) rest w ≡ cond (eqb v 0) more v
next h k = λ i. cond (eqb (h i) 0) (k i) (h i)

module _ (last : ℕ) (c : Context) (lent : List ℕ) where
  -- a text, and characters of its own
  placed : (r : Rule) (p : Place) → (read_field c r (text_or lent no_field p.from p.to)).fault.number ≡ (read_field c r (lent_text lent p)).fault.number
  placed r p = ap (λ (f : List ℕ). (read_field c r f).fault.number) (text_bytes_lem lent p)

  owned : (r : Rule) (f : List ℕ) → (read_field c r (text_or (owned_bytes f) no_field 0 (length f))).fault.number ≡ (read_field c r f).fault.number
  owned r f = ap (λ (s : List ℕ). (read_field c r s).fault.number) (own_bytes f)

  -- a number that may be empty
  optional_judged : (own : List ℕ) (lo hi n : ℕ) →
      part_wrong c (number free lo hi) lent own (kind_of (optional_part n)) (part_number (optional_part n)) (from_of (optional_part n)) (to_of (optional_part n))
      ≡ (read_field c (number free lo hi) (print (optional n))).fault.number
  unfolding part_wrong text_bytes
  optional_judged own lo hi n =
      cases (eqb n 0) (λ e. simp e (ap (λ (f : List ℕ). (read_field c (number free lo hi) f).fault.number) (no_bytes lent)))
      (λ e. simp e (number_judged c (number free lo hi) n (omega arith) refl))

  -- the fields of each typed record
  abbrev judged_by : ℕ → List Rule → Laid → ℕ
  judged_by k rs p = wrong_from c lent (table_of rs).each p k 0

  wrong_fields : (r : Record) → typed (lent_held lent r).number ≡ true →
      wrong_typed c lent (lent_held lent r).number (laid_in (parts_of r)) ≡ first_wrong last c (rules_of (lent_held lent r).number (map print (lent_held lent r).values)) (map print (lent_held lent r).values)
  unfolding wrong_typed rules_from wrong_from first_wrong part_wrong text_bytes
  wrong_fields (Issue x) t = next (owned _ (date_field x.date)) refl
  wrong_fields (Rp x) t =
      next (number_judged c (new_rp required) x.rp.0 (omega arith) refl)
      (next (number_judged c (number required 1 99) x.form (omega arith) refl)
      (next (placed _ x.name) (next (number_judged c (number required 1 999) x.quantity (omega arith) refl) refl)))
  wrong_fields (Usage x) t =
      let p : Laid = laid_in (parts_of (Usage x)) in
      ap (λ (need : ℕ). judged_by 5 (rules111 need) p) (kind_need 0x32 (kind_mark 0 x.kind ∷ []) (print_number x.kind) (mark_is x.kind))
      ∙ next (number_judged c (own_rp required) x.rp.0 (omega arith) refl)
      (next (number_judged c (number required 1 2) x.kind (omega arith) refl)
      (next (owned _ (print (usage_value x.code))) (next (placed _ x.name) (next (optional_judged p.own 1 99 x.times) refl))))
  wrong_fields (Supply x) t =
      let p : Laid = laid_in (parts_of (Supply x)) in
      let m : List ℕ = kind_mark (kind_of (optional_part x.kind)) (part_number (optional_part x.kind)) ∷ [] in
      ap₂ (λ (code site : ℕ). judged_by 6 (rules181 code site) p) (kind_need 0x38 m (print (optional x.kind)) (mark_optional x.kind))
      (kind_need 0x39 m (print (optional x.kind)) (mark_optional x.kind))
      ∙ next (number_judged c (own_rp required) x.rp.0 (omega arith) refl)
      (next (number_judged c (supplement_serial required) x.serial.0 (omega arith) refl)
      (next (optional_judged p.own 1 99 x.kind)
      (next (placed _ x.text) (next (owned _ (print (supplement_value x.code))) (next (placed _ x.site) refl)))))
  wrong_fields (Drug x) t =
      let p : Laid = laid_in (parts_of (Drug x)) in
      let m : List ℕ = kind_mark 0 x.coding ∷ [] in
      ap₂ (λ (code name : ℕ). judged_by 9 (rules201 code name) p) (drug_need m (print_number x.coding) (mark_is x.coding))
      (name_need_lem m (print_number x.coding) (text_or lent no_field x.code.from x.code.to) (lent_text lent x.code) (mark_is x.coding) (text_bytes_lem lent x.code))
      ∙ next (number_judged c (own_rp required) x.rp.0 (omega arith) refl)
      (next (number_judged c (drug_serial required) x.serial.0 (omega arith) refl)
      (next (optional_judged p.own 1 3 x.kind)
      (next (number_judged c (code_kind required) x.coding (omega arith) refl)
      (next (placed _ x.code)
      (next (placed _ x.name)
      (next (owned _ (print_amount x.amount))
      (next (number_judged c (number required 1 2) x.flag (omega arith) refl) (next (placed _ x.unit) refl))))))))
  wrong_fields (KeptRecord x) t = clash t (untyped x.number)

  wrong_typed_lem : (r : Record) → typed (lent_held lent r).number ≡ true → 1 ≤ length (lent_held lent r).values →
      length (map print (lent_held lent r).values) ≡ length (rules_of (lent_held lent r).number (map print (lent_held lent r).values)) →
      wrong_in last c lent (lent_held lent r).number (laid_in (parts_of r)) ≡ number_in (read_parts last c 0 (parts (lent_held lent r)))
  wrong_typed_lem r t some l =
      let fs : List (List ℕ) = map print (lent_held lent r).values in
      typed_wrong last c lent 0 (lent_held lent r).number (laid_in (parts_of r)) fs t (omega (arith, some, length-map (lent_held lent r).values print)) l (wrong_fields r t)

  wrong_kept : (x : Kept) → wrong_in last c lent (number_for (KeptRecord x)) (laid_in (parts_of (KeptRecord x))) ≡ number_in (read_parts last c 0 (parts (lent_held lent (KeptRecord x))))
  wrong_kept x =
      let s : List ℕ = lent_text lent x.fields in
      kept_wrong last c lent 0 (lent_held lent (KeptRecord x)).number (laid_in (parts_of (KeptRecord x))) (map print (lent_held lent (KeptRecord x)).values)
      (untyped x.number) (ap split (text_bytes_lem lent x.fields) ∙ sym (texts (split s)))

  -- What is wrong with the parts of a record is what the reader says of its line.
  wrong_is : (r : Record) → wrong_in last c lent (number_for r) (laid_in (parts_of r)) ≡ number_in (read_parts last c 0 (parts (lent_held lent r)))
  unfolding typed rules_from
  wrong_is (Issue x) = wrong_typed_lem (Issue x) refl (omega arith) refl
  wrong_is (Rp x) = wrong_typed_lem (Rp x) refl (omega arith) refl
  wrong_is (Usage x) = wrong_typed_lem (Usage x) refl (omega arith) refl
  wrong_is (Supply x) = wrong_typed_lem (Supply x) refl (omega arith) refl
  wrong_is (Drug x) = wrong_typed_lem (Drug x) refl (omega arith) refl
  wrong_is (KeptRecord x) = wrong_kept x

  -- So a record's parts, with what is wrong with them, are its entry.
  pub as_entry : (r : Record) (w : ℕ) (p : Parts) → p ≡ parts_of r → w ≡ wrong_in last c lent (get_or p.numbers 0 0) (laid_in p) →
      record { wrong = w; parts = p } ≡ entry_of last c lent r
  unfolding entry_of
  as_entry r w p q e =
      let v : w ≡ number_in (read_parts last c 0 (parts (lent_held lent r))) = e ∙ (λ i. wrong_in last c lent (get_or (q i).numbers 0 0) (laid_in (q i))) ∙ ap (λ (n : ℕ). wrong_in last c lent n (laid_in (parts_of r))) (first_number r) ∙ wrong_is r in
      λ i. record { wrong = v i; parts = q i }
