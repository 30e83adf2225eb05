-- Reading what was written: the buffer holds the lines of what was put, and they are read as records that hold it.
-- Assumes nothing.
use Prim.Native.Nat.{ℕ, ◌+◌, ◌≤◌, min}
use mathlib.Core.Path.{◌≡◌, refl, ◌∙◌, sym, ap, ap₂, subst}
use mathlib.Core.Bool.{Bool, true, false}
use mathlib.Core.List.{List, [], ◌∷◌, ◌++◌, map, append_assoc}
use native.Mathlib.Omega.{arith}
use borrow.Author.Tests.{leb-true, eqb-true}
use lib.Dec.{leb, eqb}
use lib.ListN.{length, take, drop, length-append, length-take, length-drop}
use lib.Seq.{take_at, length-take-le}
use Rattle.cells.specs.Limits.{file_most}
use Rattle.cells.proofs.Split.{split as cases}
use Rattle.line.specs.Frame.{plain_lines, file}
use Rattle.line.specs.Fields.{split}
use Rattle.supplement.specs.declared.Supplement.{Supplement}
use Rattle.order.specs.Next.{closes}
use Rattle.schedule.specs.Schedule.{list}
use Rattle.field.specs.Field.{context}
use Rattle.record.specs.declared.Sofar.{Sofar}
use Rattle.record.specs.Record.{after, supplements}
use Rattle.record_line.specs.Line.{read_parts}
use Rattle.record.specs.declared.Record.{Record}
use Rattle.record_line.proofs.Same.{same_parts}
use Rattle.record_line.proofs.Leaves.{Keeps, keeps_on}
use Rattle.reader.specs.File.{File, whole, before, on, in_list, read_lines}
use Rattle.reader.proofs.Lines.{after_line}
use Rattle.held.specs.Held.{Held, held, lent_held, parts, print_record}
use Rattle.held.proofs.Laws.{plain_parts, split_parts, same_after, same_supplements, again}
use Rattle.writer.specs.Writer.{Left, state, put_at, room, ended, put_line, put_record, close_buffer}
use Rattle.writer.specs.Files.{Item, held_in, next, put_all, written_in}
use Rattle.writer.proofs.WriteBack.{done, joins_alike}
use Rattle.std.specs.Prelude.{Err, Ok, Result}
use Rattle.record.specs.declared.Refusal.{Refusal}

-- The lines of what is put.
abbrev pub lines_for : List Item → List (List ℕ)
lines_for xs = map print_record (map held_in xs)

-- ---- one call
-- Bytes put at a place of the buffer stand after those before it.
pub put_stands : (out l : List ℕ) (at : ℕ) → at ≤ length out → take (at + length l) (put_at out at l) ≡ take at out ++ l
unfolding put_at
put_stands out l at h =
    let n : length (take at out ++ l) ≡ at + length l = length-append (take at out) l ∙ ap (λ (k : ℕ). k + length l) (length-take-le at out h) in
    ap (take (at + length l)) (sym (append_assoc (take at out) l (drop (at + length l) out)))
    ∙ take_at (take at out ++ l) (drop (at + length l) out) (at + length l) n

-- and the buffer stays as long, where they fit
pub put_length : (out l : List ℕ) (at : ℕ) → at + length l ≤ length out → length (put_at out at l) ≡ length out
unfolding put_at
put_length out l at h = simp (length-append, length-take, length-drop) (omega arith)

-- A line that is put has room, and the writer is after it.
pub record PutLine (out : List ℕ) (at : ℕ) (l : List ℕ) (d : Sofar) (w : Left) : Type 0 where
  pub fits : at + (length l + 3) ≤ min (length out) file_most
  pub is : w ≡ done (at + (length l + 2)) false d (put_at out at (ended l))

pub line_there : (out : List ℕ) (at : ℕ) (closed : Bool) (c d : Sofar) (l : List ℕ) → (put_line out (state at closed c) l d).put.number ≡ 0 →
    PutLine out at l d (put_line out (state at closed c) l d)
unfolding room
line_there out at closed c d l h =
    cases (leb (at + (length l + 3)) (min (length out) file_most)) (λ e. record { fits = leb-true _ _ e; is = rw e })
    (λ e. absurd (let z : ◌≡◌ {A = ℕ} 33 0 = simp e at h in omega arith))

-- A record that is put is taken by the reader, and has room.
record PutRecord (out : List ℕ) (at : ℕ) (c : Sofar) (r : Record) (lent : List ℕ) : Type 0 where
  read : Record
  takes : read_parts c.last (context c.before) at (parts (lent_held lent r)) ≡ Ok read
  there : PutLine out at (print_record (lent_held lent r)) (after c.before r) (put_record out (state at false c) r lent)

record_there : (out : List ℕ) (at : ℕ) (c : Sofar) (r : Record) (lent : List ℕ) → (put_record out (state at false c) r lent).put.number ≡ 0 →
    PutRecord out at c r lent
unfolding put_record
record_there out at c r lent h = by (read_parts c.last (context c.before) at (parts (lent_held lent r))) refl
  where
    l : List ℕ
    l = print_record (lent_held lent r)

    by : (a : Result Record Refusal) → read_parts c.last (context c.before) at (parts (lent_held lent r)) ≡ a → PutRecord out at c r lent
    by (Ok q) e = record { read = q; takes = e; there = rw e (line_there out at false c (after c.before r) l (rw e at h)) }
    by (Err f) e = absurd (let z : ◌≡◌ {A = ℕ} 34 0 = rw e at h in omega arith)

-- A file that is closed has its end.
record Closed (out : List ℕ) (at : ℕ) (c : Sofar) : Type 0 where
  may : closes c.last ≡ true
  fits : at + 1 ≤ min (length out) file_most
  is : close_buffer out (state at false c) ≡ done (at + 1) true c (put_at out at (0x1a ∷ []))

closed_there : (out : List ℕ) (at : ℕ) (c : Sofar) → (close_buffer out (state at false c)).put.number ≡ 0 → Closed out at c
unfolding close_buffer
closed_there out at c h =
    cases (closes c.last)
    (λ e. cases (leb (at + 1) (min (length out) file_most)) (λ f. record { may = e; fits = leb-true _ _ f; is = rw (e, f) })
    (λ f. absurd (let z : ◌≡◌ {A = ℕ} 33 0 = simp (e, f) at h in omega arith)))
    (λ e. absurd (let z : ◌≡◌ {A = ℕ} 34 0 = simp e at h in omega arith))

-- On with the next call only where this one was not refused.
pub first_call : (w : Left) (more : Left → Left) → (next w more).put.number ≡ 0 → w.put.number ≡ 0
first_call w more h = cases (eqb w.put.number 0) (λ e. eqb-true _ _ e) (λ e. simp e at h)

-- ---- all calls
-- What all calls from a place on have written, and what is read from there on.
pub record Walk (xs : List Item) (at : ℕ) (c : Sofar) (codes : List Supplement) (out : List ℕ) : Type 0 where
  pub plain : plain_lines (lines_for xs) ≡ true
  pub bytes : written_in (put_all xs (done at false c out)) ≡ take at out ++ file (lines_for xs)
  pub most : at + length (file (lines_for xs)) ≤ file_most
  pub reads : (s : List ℕ) → drop at s ≡ file (lines_for xs) →
      ((read_lines at c codes (lines_for xs)).ending ≡ whole) × (map (held s) (read_lines at c codes (lines_for xs)).records ≡ map held_in xs)

-- only the end is left
walk_end : (at : ℕ) (c : Sofar) (codes : List Supplement) (out : List ℕ) → (close_buffer out (state at false c)).put.number ≡ 0 → Walk [] at c codes out
unfolding put_all file plain_lines read_lines
walk_end at c codes out h =
    let p = closed_there out at c h in
    record {
      plain = refl;
      bytes = ap written_in p.is ∙ put_stands out (0x1a ∷ []) at (omega (arith, p.fits));
      most = omega (arith, p.fits);
      reads = λ s e. simp p.may (refl, refl);
    }

module _ (x : Item) (xs : List Item) (at : ℕ) (c : Sofar) (codes : List Supplement) (out : List ℕ) (k : Keeps c.before codes)
    (p : PutRecord out at c x.holds x.lent) where
  -- its line
  abbrev l : List ℕ
  l = print_record (held_in x)

  -- the reader takes the line
  line_taken : read_parts c.last (in_list c.before codes) at (split l) ≡ Ok p.read
  line_taken =
      ap (read_parts c.last (in_list c.before codes) at) (split_parts c.last (context c.before) at x.lent x.holds p.read p.takes)
      ∙ sym (same_parts _ _ (joins_alike c.before codes k) c.last c.before at (parts (held_in x))) ∙ p.takes

  left : after c.before p.read ≡ after c.before x.holds
  left = same_after c.last (context c.before) at x.lent x.holds p.read p.takes

  left_codes : supplements codes p.read ≡ supplements codes x.holds
  left_codes = same_supplements c.last (context c.before) at x.lent x.holds p.read p.takes codes

  -- what is kept after it
  keeps_more : Keeps (after c.before x.holds).before (supplements codes x.holds)
  keeps_more =
      subst (λ (d : Sofar). Keeps d.before (supplements codes x.holds)) left
      (subst (Keeps (after c.before p.read).before) left_codes
      (keeps_on c.before codes k (λ y. list c.before.month (codes ++ (y ∷ []))) (λ y. refl) c.last at (split l) p.read line_taken))

  -- where the next line is put, and into what
  abbrev further : ℕ
  further = at + (length l + 2)

  abbrev filled : List ℕ
  filled = put_at out at (ended l)

  long : length (ended l) ≡ length l + 2
  long = length-append l (0x0d ∷ 0x0a ∷ [])

  -- what is read from the line on
  reads_more : Walk xs further (after c.before x.holds) (supplements codes x.holds) filled → (s : List ℕ) → drop at s ≡ file (lines_for (x ∷ xs)) →
      ((read_lines at c codes (lines_for (x ∷ xs))).ending ≡ whole) × (map (held s) (read_lines at c codes (lines_for (x ∷ xs))).records ≡ map held_in (x ∷ xs))
  unfolding read_lines file print_record
  reads_more w s e =
      let z : at + length l + 2 ≡ further = omega arith in
      let d : drop further s ≡ file (lines_for xs) = ap (λ (n : ℕ). drop n s) (sym z) ∙ after_line s at l (lines_for xs) e in
      let g = w.reads s d in
      let f : read_lines at c codes (lines_for (x ∷ xs)) ≡ before p.read (read_lines further (after c.before x.holds) (supplements codes x.holds) (lines_for xs)) =
      ap (λ (a : Result Record Refusal). on a (λ q. read_lines (at + length l + 2) (after c.before q) (supplements codes q) (lines_for xs))) line_taken
      ∙ (λ i. before p.read (read_lines (z i) (left i) (left_codes i) (lines_for xs))) in
      let a : held s p.read ≡ held_in x = again c.last (context c.before) at x.lent x.holds p.read p.takes s (0x0d ∷ 0x0a ∷ file (lines_for xs)) e in (
        ap (λ (v : File). v.ending) f ∙ g.0,
        ap (λ (v : File). map (held s) v.records) f ∙ ap₂ (λ (y : Held) (ys : List Held). y ∷ ys) a g.1,
      )

  -- the record and the others
  walk_more : Walk xs further (after c.before x.holds) (supplements codes x.holds) filled → Walk (x ∷ xs) at c codes out
  unfolding put_all file plain_lines read_lines print_record
  walk_more w =
      record {
        plain = rw (plain_parts c.last (context c.before) at x.lent x.holds p.read p.takes).1 w.plain;
        bytes =
            ap (λ (v : Left). written_in (next v (λ u. put_all xs u))) p.there.is
            ∙ w.bytes
            ∙ ap (λ (b : List ℕ). b ++ file (lines_for xs))
            (ap (λ (n : ℕ). take (at + n) filled) (sym long) ∙ put_stands out (ended l) at (omega (arith, p.there.fits)))
            ∙ append_assoc (take at out) (ended l) (file (lines_for xs))
            ∙ ap (λ (b : List ℕ). take at out ++ b) (append_assoc l (0x0d ∷ 0x0a ∷ []) (file (lines_for xs)));
        most = omega (arith, w.most, length-append l (0x0d ∷ 0x0a ∷ file (lines_for xs)));
        reads = reads_more w;
      }

-- All calls from a place on, where none is refused.
pub walk : (xs : List Item) (at : ℕ) (c : Sofar) (codes : List Supplement) (out : List ℕ) → Keeps c.before codes → at ≤ length out →
    (put_all xs (done at false c out)).put.number ≡ 0 → Walk xs at c codes out
unfolding put_all
walk [] at c codes out k l h = walk_end at c codes out h
walk (x ∷ xs) at c codes out k l h =
    let z = first_call (put_record out (state at false c) x.holds x.lent) (λ v. put_all xs v) h in
    let p = record_there out at c x.holds x.lent z in
    let n : length (ended (print_record (held_in x))) ≡ length (print_record (held_in x)) + 2 = long x xs at c codes out k p in
    let b : length (filled x xs at c codes out k p) ≡ length out = put_length out (ended (print_record (held_in x))) at (omega (arith, p.there.fits)) in
    let i : (put_all xs (done (further x xs at c codes out k p) false (after c.before x.holds) (filled x xs at c codes out k p))).put.number ≡ 0 =
    ap (λ (v : Left). (next v (λ u. put_all xs u)).put.number) (sym p.there.is) ∙ h in
    walk_more x xs at c codes out k p
    (walk xs (further x xs at c codes out k p) (after c.before x.holds) (supplements codes x.holds) (filled x xs at c codes out k p) (keeps_more x xs at c codes out k p)
    (omega (arith, p.there.fits)) i)
