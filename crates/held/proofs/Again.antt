-- A record that is read from the parts that another is written as holds what that one holds, and leaves what that one leaves.
-- Assumes nothing.
use Prim.Native.Nat.{ℕ, ◌+◌, ◌-◌, ◌<◌}
use mathlib.Core.Path.{◌≡◌, refl, ◌∙◌, sym, ap, subst}
use mathlib.Core.Bool.{Bool, true, false, cond, ◌&&◌}
use mathlib.Core.List.{List, [], ◌∷◌, ◌++◌, map}
use native.Mathlib.Omega.{arith}
use borrow.Author.Tests.{eqb-true}
use lib.Dec.{leb, eqb}
use lib.ListN.{length, drop}
use Rattle.cells.specs.Test.{Answer, took, refused}
use Rattle.cells.proofs.Split.{split as cases}
use Rattle.line.specs.Frame.{plain_line}
use Rattle.line.specs.Fields.{split, join, nth}
use Rattle.line.proofs.Laws.{join_split, split_join}
use Rattle.number.specs.Number.{value, shortest, read_number}
use Rattle.number.specs.Print.{print_number}
use Rattle.date.specs.Date.{read_date}
use Rattle.date.specs.declared.Date.{Date}
use Rattle.usage.specs.Usage.{read_usage}
use Rattle.usage.specs.declared.Instruction.{Instruction}
use Rattle.usage_writer.specs.Print.{raw as usage_text}
use Rattle.supplement.specs.Supplement.{read_supplement}
use Rattle.supplement.specs.declared.Supplement.{Supplement}
use Rattle.supplement_writer.specs.Print.{raw as supplement_text, agrees}
use Rattle.printed.specs.Printed.{date_field, usage_field, supplement_field, reads_as}
use Rattle.printed.proofs.Laws.{date_reads, usage_reads, supplement_reads}
use Rattle.order.specs.Next.{follow}
use Rattle.field.specs.declared.Before.{Before}
use Rattle.field.specs.Field.{Context, rule, is_empty, is_taken, written_number, fault_in, code_fault, wrong}
use Rattle.row.specs.Table.{typed, rules, rules_from}
use Rattle.record.specs.Record.{text_at, after, supplements, date_in, usage_in, supplement_in, record_from}
use Rattle.record_line.specs.Fields.{place_of, record_of}
use Rattle.record_line.specs.Line.{number_in, read_parts}
use Rattle.record.specs.declared.Record.{Record}
use Rattle.record.specs.declared.Record.TheVariants.{Issue, Rp, Usage, Supplement as Supply, Drug, Kept}
use Rattle.record_line.proofs.Stands.{stands, all_stand, after_first}
use Rattle.held.specs.Held.{number, amount, text, optional, usage_value, supplement_value, holding, held, lent_text, lent_held, print, parts, print_record}
use Rattle.held.proofs.Numbers.{number_value, amount_value}
use Rattle.held.proofs.Field.{coded, day_read, refused_usage, refused_supplement}
use Rattle.held.proofs.Row.{Fine}
use Rattle.held.proofs.Taken.{Taken, taken, not_0}
use Rattle.held.proofs.Record.{texts}
use Rattle.std.specs.Prelude.{None, Ok, Option, Some}
use Rattle.held.proofs.Plain as plain

-- ---- value by value
optional_value : (n : ℕ) → written_number (print (optional n)) ≡ n
unfolding value
optional_value n = cases (eqb n 0) (λ e. rw e (sym (eqb-true n 0 e))) (λ e. rw e (number_value n))

date_value : (t : Date) (m : Answer Date) → read_date (date_field t) ≡ m → is_taken m ≡ true → date_in m ≡ t
date_value t (took u) e h = date_reads t u e
date_value t (refused n p) e h = absurd (let z : ◌≡◌ {A = ℕ} 0 1 = cc in omega arith)

usage_value_lem : (i : Instruction) (m : Answer Instruction) → read_usage (usage_field i) ≡ m → (fault_in m).number ≡ 0 → usage_in m ≡ Some i
usage_value_lem i (took j) e h = ap Some (usage_reads i j e)
usage_value_lem i (refused n p) e h = absurd (refused_usage (usage_field i) n p e h)

supplement_value_lem : (x : Supplement) (m : Answer Supplement) → read_supplement (supplement_field x) ≡ m → (fault_in m).number ≡ 0 → supplement_in m ≡ Some x
supplement_value_lem x (took y) e h = ap Some (supplement_reads x y e)
supplement_value_lem x (refused n p) e h = absurd (refused_supplement (supplement_field x) n p e h)

-- a code's field is filled
filled_if : (b : Bool) (f g : List ℕ) → is_empty f ≡ false → is_empty g ≡ false → is_empty (cond b f g) ≡ false
filled_if true f g h k = h
filled_if false f g h k = k

usage_filled : (i : Instruction) → is_empty (usage_field i) ≡ false
unfolding usage_field
usage_filled i = filled_if (reads_as (read_usage (usage_text i)) i) _ _ refl refl

supplement_filled : (x : Supplement) → is_empty (supplement_field x) ≡ false
unfolding supplement_field supplement_text
supplement_filled x =
    filled_if (agrees (read_supplement (supplement_text x)) x) _ _
    (filled_if (eqb x.letter 73) _ _ refl
    (filled_if (eqb x.letter 87) _ _ refl (filled_if (eqb x.letter 68) _ _ refl (filled_if (eqb x.letter 67) _ _ refl refl)))) refl

-- ---- record by record
-- The record whose texts are the fields of a line, the first of which begins at an offset.
moved : ℕ → List (List ℕ) → Record → Record
moved at fs (Issue x) = Issue x
moved at fs (Rp x) = Rp (record { rp = x.rp; form = x.form; name = place_of at 3 fs; quantity = x.quantity })
moved at fs (Usage x) = Usage (record { rp = x.rp; kind = x.kind; code = x.code; name = place_of at 4 fs; times = x.times })
moved at fs (Supply x) =
    Supply (record { rp = x.rp; serial = x.serial; kind = x.kind; text = place_of at 4 fs; code = x.code; site = place_of at 6 fs })
moved at fs (Drug x) =
    Drug
    (record {
      rp = x.rp;
      serial = x.serial;
      kind = x.kind;
      coding = x.coding;
      code = place_of at 5 fs;
      name = place_of at 6 fs;
      amount = x.amount;
      flag = x.flag;
      unit = place_of at 9 fs;
    })
moved at fs (Kept x) = Kept (record { number = x.number; fields = record { from = at; to = at + length (join fs) } })

-- It leaves what the record leaves,
leaves_same : (b : Before) (at : ℕ) (fs : List (List ℕ)) (r : Record) → after b (moved at fs r) ≡ after b r
unfolding moved
leaves_same b at fs (Issue x) = refl
leaves_same b at fs (Rp x) = refl
leaves_same b at fs (Usage x) = refl
leaves_same b at fs (Supply x) = refl
leaves_same b at fs (Drug x) = refl
leaves_same b at fs (Kept x) = refl

same_codes : (xs : List Supplement) (at : ℕ) (fs : List (List ℕ)) (r : Record) → supplements xs (moved at fs r) ≡ supplements xs r
unfolding moved
same_codes xs at fs (Issue x) = refl
same_codes xs at fs (Rp x) = refl
same_codes xs at fs (Usage x) = refl
same_codes xs at fs (Supply x) = refl
same_codes xs at fs (Drug x) = refl
same_codes xs at fs (Kept x) = refl

-- the fields that a record is written as
abbrev fields_of : List ℕ → Record → List (List ℕ)
fields_of lent r = map print (lent_held lent r).values

-- and it holds what the record holds.
holds_same : (s lent : List ℕ) (at : ℕ) (rest : List ℕ) (r : Record) → drop at s ≡ join (fields_of lent r) ++ rest →
    held s (moved at (fields_of lent r) r) ≡ lent_held lent r
unfolding moved
holds_same s lent at rest (Issue x) h = refl
holds_same s lent at rest (Rp x) h =
    λ i. holding 101 (number x.rp.0 ∷ number x.form ∷ text (stands s at (fields_of lent (Rp x)) rest h 3 (omega arith) i) ∷ number x.quantity ∷ [])
holds_same s lent at rest (Usage x) h =
    λ i. holding 111
    (number x.rp.0 ∷ number x.kind ∷ usage_value x.code ∷ text (stands s at (fields_of lent (Usage x)) rest h 4 (omega arith) i) ∷ optional x.times ∷ [])
holds_same s lent at rest (Supply x) h =
    let w : (k : ℕ) → k - 1 < 6 → text_at s (place_of at k (fields_of lent (Supply x))) ≡ nth k (fields_of lent (Supply x)) = stands s at (fields_of lent (Supply x)) rest h in
    λ i. holding 181
    (number x.rp.0 ∷
    number x.serial.0 ∷
    optional x.kind ∷
    text (w 4 (omega arith) i) ∷
    supplement_value x.code ∷
    text (w 6 (omega arith) i) ∷ [])
holds_same s lent at rest (Drug x) h =
    let w : (k : ℕ) → k - 1 < 9 → text_at s (place_of at k (fields_of lent (Drug x))) ≡ nth k (fields_of lent (Drug x)) = stands s at (fields_of lent (Drug x)) rest h in
    λ i. holding 201
    (number x.rp.0 ∷
    number x.serial.0 ∷
    optional x.kind ∷
    number x.coding ∷
    text (w 5 (omega arith) i) ∷
    text (w 6 (omega arith) i) ∷
    amount x.amount ∷
    number x.flag ∷
    text (w 9 (omega arith) i) ∷ [])
holds_same s lent at rest (Kept x) h =
    let t : List ℕ = lent_text lent x.fields in
    let e : text_at s (record { from = at; to = at + length (join (fields_of lent (Kept x))) }) ≡ lent_text lent x.fields =
    all_stand s at (fields_of lent (Kept x)) rest h ∙ ap join (texts (split t)) ∙ join_split t in
    λ i. holding (cond (typed x.number) 0 x.number) (map text (split (e i)))

-- ---- what is read of the fields
module _ (last : ℕ) (c : Context) where
  -- codes, where there are some
  usage_read : (need : ℕ) (k : Option Instruction) → (wrong c (rule need 4 0 0) (print (usage_value k))).number ≡ 0 →
      usage_in (read_usage (print (usage_value k))) ≡ k
  unfolding read_usage code_fault
  usage_read need (Some i) h =
      usage_value_lem i (read_usage (usage_field i)) refl (coded c _ (usage_field i) (usage_filled i) h)
  usage_read need None h = refl

  supplement_read : (need : ℕ) (k : Option Supplement) → (wrong c (rule need 5 0 0) (print (supplement_value k))).number ≡ 0 →
      supplement_in (read_supplement (print (supplement_value k))) ≡ k
  unfolding read_supplement code_fault
  supplement_read need (Some x) h =
      supplement_value_lem x (read_supplement (supplement_field x)) refl
      (coded c _ (supplement_field x) (supplement_filled x) h)
  supplement_read need None h = refl

  -- ---- the record that is read
  -- a number that has no line in the table
  kept_is : (n at : ℕ) (fs : List (List ℕ)) → typed n ≡ false → record_of n at fs ≡ Kept (record { number = n; fields = record { from = at; to = at + length (join fs) } })
  unfolding record_of record_from typed
  kept_is n at fs t =
      cases (eqb n 51) (λ e. never (simp e at t))
      (λ a. cases (eqb n 101) (λ e. never (simp (a, e) at t))
      (λ b. cases (eqb n 111) (λ e. never (simp (a, b, e) at t))
      (λ d. cases (eqb n 181) (λ e. never (simp (a, b, d, e) at t))
      (λ e. cases (eqb n 201) (λ f. never (simp (a, b, d, e, f) at t)) (λ f. simp (a, b, d, e, f))))))
    where
      never : {P : Type 0} → true ≡ false → P
      never h = absurd (let z : ◌≡◌ {A = ℕ} 0 1 = cc in omega arith)

  -- the record of a record's own number and fields, where they are fine
  same_record : (lent : List ℕ) (at : ℕ) (r : Record) → ((lent_held lent r).number ≡ 0 → ⊥) → Fine c (lent_held lent r).number (fields_of lent r) →
      record_of (lent_held lent r).number at (fields_of lent r) ≡ moved at (fields_of lent r) r
  unfolding moved record_of record_from rules rules_from typed
  same_record lent at (Issue x) z w =
      let d : date_in (read_date (date_field x.date)) ≡ x.date =
      date_value x.date (read_date (date_field x.date)) refl (day_read c (date_field x.date) (w.passes 0 (omega arith))) in
      λ i. Issue (record { date = d i })
  same_record lent at (Rp x) z w =
      λ i. Rp
      (record {
        rp = record { 0 = number_value x.rp.0 i };
        form = number_value x.form i;
        name = place_of at 3 (fields_of lent (Rp x));
        quantity = number_value x.quantity i;
      })
  same_record lent at (Usage x) z w =
      let k = usage_read _ x.code (w.passes 2 (omega arith)) in
      λ i. Usage
      (record {
        rp = record { 0 = number_value x.rp.0 i };
        kind = number_value x.kind i;
        code = k i;
        name = place_of at 4 (fields_of lent (Usage x));
        times = optional_value x.times i;
      })
  same_record lent at (Supply x) z w =
      let k = supplement_read _ x.code (w.passes 4 (omega arith)) in
      λ i. Supply
      (record {
        rp = record { 0 = number_value x.rp.0 i };
        serial = record { 0 = number_value x.serial.0 i };
        kind = optional_value x.kind i;
        text = place_of at 4 (fields_of lent (Supply x));
        code = k i;
        site = place_of at 6 (fields_of lent (Supply x));
      })
  same_record lent at (Drug x) z w =
      λ i. Drug
      (record {
        rp = record { 0 = number_value x.rp.0 i };
        serial = record { 0 = number_value x.serial.0 i };
        kind = optional_value x.kind i;
        coding = number_value x.coding i;
        code = place_of at 5 (fields_of lent (Drug x));
        name = place_of at 6 (fields_of lent (Drug x));
        amount = amount_value x.amount i;
        flag = number_value x.flag i;
        unit = place_of at 9 (fields_of lent (Drug x));
      })
  same_record lent at (Kept x) z w = kept_same x.number (fields_of lent (Kept x)) z
    where
      kept_same : (n : ℕ) (fs : List (List ℕ)) → (cond (typed n) 0 n ≡ 0 → ⊥) →
          record_of (cond (typed n) 0 n) at fs ≡ Kept (record { number = n; fields = record { from = at; to = at + length (join fs) } })
      kept_same n fs y = cases (typed n) (λ e. absurd (y (rw e))) (λ e. rw e (kept_is n at fs e))

  -- the number that a record is written with is read as it, where it may follow
  number_read : (n : ℕ) → follow last (number_in (read_number 1 999 (print_number n))) ≡ 0 → number_in (read_number 1 999 (print_number n)) ≡ n
  unfolding read_number
  number_read n h =
      cases (shortest (print_number n) && (leb 1 (value 0 (print_number n)) && leb (value 0 (print_number n)) 999))
      (λ e. simp e (number_value n)) (λ e. not_0 last c (simp e at h))

  module _ (at : ℕ) (lent : List ℕ) (r q : Record) (h : read_parts last c at (parts (lent_held lent r)) ≡ Ok q) where
    -- where the first field begins
    abbrev from : ℕ
    from = at + length (print_number (lent_held lent r).number) + 1

    -- the record is taken with its own number
    own : Taken last c (lent_held lent r).number from (fields_of lent r) q
    unfolding read_parts
    own =
        let n : ℕ = (lent_held lent r).number in
        let t = taken last c at (number_in (read_number 1 999 (print_number (lent_held lent r).number))) from (fields_of lent r) q h in
        subst (λ (m : ℕ). Taken last c m from (fields_of lent r) q) (number_read (lent_held lent r).number t.follows) t

    some_number : (lent_held lent r).number ≡ 0 → ⊥
    some_number z = not_0 last c (subst (λ (m : ℕ). follow last m ≡ 0) z own.follows)

    is_moved : moved from (fields_of lent r) r ≡ q
    is_moved = sym (same_record lent from r some_number own.fine) ∙ own.is

    -- What is read from a record's parts leaves what the record leaves,
    pub same_after : after c.before q ≡ after c.before r
    same_after = ap (after c.before) (sym is_moved) ∙ leaves_same c.before from (fields_of lent r) r

    -- also of the RP's supplements,
    pub same_supplements : (xs : List Supplement) → supplements xs q ≡ supplements xs r
    same_supplements xs = ap (supplements xs) (sym is_moved) ∙ same_codes xs from (fields_of lent r) r

    -- holds what the record holds, where the parts stand in the file,
    pub again : (s rest : List ℕ) → drop at s ≡ join (parts (lent_held lent r)) ++ rest → held s q ≡ lent_held lent r
    again s rest e =
        ap (held s) (sym is_moved)
        ∙ holds_same s lent from rest r (after_first s (print_number (lent_held lent r).number) at (fields_of lent r) rest own.fine.some e)

    -- and the line's fields are these parts.
    pub split_parts : split (print_record (lent_held lent r)) ≡ parts (lent_held lent r)
    unfolding print_record
    split_parts = split_join (parts (lent_held lent r)) (omega arith) (plain.plain_parts last c at (parts (lent_held lent r)) q h).commas

    pub plain_line_lem : plain_line (print_record (lent_held lent r)) ≡ true
    unfolding print_record
    plain_line_lem = (plain.plain_parts last c at (parts (lent_held lent r)) q h).line
