-- Writing back what was read: line by line the buffer becomes the file.
-- Assumes nothing.
use Prim.Native.Nat.{ℕ, ◌+◌, ◌≤◌, min}
use mathlib.Core.Path.{◌≡◌, refl, ◌∙◌, sym, ap, ap₂}
use mathlib.Core.Bool.{Bool, true, false}
use mathlib.Core.List.{List, [], ◌∷◌, ◌++◌, map, append_assoc}
use native.Mathlib.Omega.{arith}
use borrow.Author.Tests.{le-leb}
use lib.ListN.{length, take, drop, length-append, length-take, length-drop}
use lib.Seq.{take_at, take-add, drop_at, drop-drop, length-take-le}
use Rattle.cells.specs.Limits.{file_most}
use Rattle.cells.proofs.Split.{split as cases}
use Rattle.line.specs.Frame.{file}
use Rattle.line.specs.Fields.{split, join}
use Rattle.line.proofs.Laws.{join_split}
use Rattle.supplement.specs.declared.Supplement.{Supplement}
use Rattle.order.specs.Next.{closes}
use Rattle.schedule.specs.Schedule.{list}
use Rattle.schedule.specs.Kept.{may_join}
use Rattle.schedule.proofs.Laws.{decides}
use Rattle.field.specs.Field.{context}
use Rattle.field.specs.declared.Before.{Before}
use Rattle.record.specs.declared.Sofar.{Sofar}
use Rattle.record.specs.Record.{after, supplements}
use Rattle.record_line.specs.Line.{read_parts}
use Rattle.record.specs.declared.Record.{Record}
use Rattle.record_line.proofs.Same.{same_parts}
use Rattle.record_line.proofs.Leaves.{Keeps, keeps_on}
use Rattle.reader.specs.File.{File, whole, on, in_list, read_lines}
use Rattle.reader.proofs.Lines.{inside, after_line}
use Rattle.held.specs.Held.{lent_held, parts, print_record}
use Rattle.held.proofs.Laws.{lent_back}
use Rattle.held.proofs.File.{never_whole}
use Rattle.writer.specs.Writer.{Left, state, put_at, room, ended, put_line, on_answer, put_record, close_buffer}
use Rattle.writer.specs.Files.{item, next, put_all}
use Rattle.std.specs.Prelude.{Err, Ok, Result}
use Rattle.record.specs.declared.Refusal.{Refusal}

-- A writer at a place, and the buffer, after a call that was not refused.
abbrev pub done : ℕ → Bool → Sofar → List ℕ → Left
done at closed c out = record { put = record { number = 0; own = 0; state = state at closed c }; buffer = out }

-- What records leave, one after the other.
abbrev pub after_all : Sofar → List Record → Sofar
after_all c [] = c
after_all c (r ∷ rs) = after_all (after c.before r) rs

-- what is kept decides what the RP's list says
pub joins_alike : (b : Before) (xs : List Supplement) → Keeps b xs → (x : Supplement) → may_join b.month b.schedule x ≡ list b.month (xs ++ (x ∷ []))
joins_alike b xs k x = rw k.keeps (decides b.month xs x k.listed)

module _ (s out : List ℕ) (fits : length s ≤ length out) (most : length s ≤ file_most) where
  -- the buffer with the file's first n bytes in it
  abbrev upto : ℕ → List ℕ
  upto n = take n s ++ drop n out

  length_upto : (at : ℕ) → at ≤ length s → length (upto at) ≡ length out
  length_upto at l = simp (length-append, length-take, length-drop) (omega arith)

  -- the file's next bytes put after them
  put_more : (at : ℕ) (l t : List ℕ) → drop at s ≡ l ++ t → at ≤ length s → put_at (upto at) at l ≡ upto (at + length l)
  unfolding put_at
  put_more at l t e m =
      let a : length (take at s) ≡ at = length-take-le at s m in
      let b : take at (upto at) ≡ take at s = take_at (take at s) (drop at out) at a in
      let d : drop (at + length l) (upto at) ≡ drop (at + length l) out =
      sym (drop-drop (length l) at (upto at)) ∙ ap (drop (length l)) (drop_at (take at s) (drop at out) at a) ∙ drop-drop (length l) at out in
      let f : take (at + length l) s ≡ take at s ++ l = take-add at (length l) s ∙ ap (λ (x : List ℕ). take at s ++ x) (ap (take (length l)) e ∙ take_at l t (length l) refl) in
      ap₂ (λ (x y : List ℕ). x ++ (l ++ y)) b d ∙ sym (append_assoc (take at s) l (drop (at + length l) out)) ∙ ap (λ (x : List ℕ). x ++ drop (at + length l) out) (sym f)

  some_file : (ls : List (List ℕ)) → 1 ≤ length (file ls)
  unfolding file
  some_file [] = omega arith
  some_file (l ∷ ls) = omega (arith, length-append l (0x0d ∷ 0x0a ∷ file ls))

  -- the file's next line put
  pub line_put : (at : ℕ) (closed : Bool) (c d : Sofar) (l : List ℕ) (ls : List (List ℕ)) → drop at s ≡ file (l ∷ ls) →
      put_line (upto at) (state at closed c) l d ≡ done (at + (length l + 2)) false d (upto (at + (length l + 2)))
  unfolding file room
  line_put at closed c d l ls e =
      let m : length s ≡ at + (length l + 2 + length (file ls)) =
      omega (arith, inside s at l (0x0a ∷ file ls) e, length-drop at s, ap length e, length-append l (0x0d ∷ 0x0a ∷ file ls)) in
      let o : length (upto at) ≡ length out = length_upto at (omega arith) in
      let n : length (ended l) ≡ length l + 2 = length-append l (0x0d ∷ 0x0a ∷ []) in
      let g : drop at s ≡ ended l ++ file ls = e ∙ sym (append_assoc l (0x0d ∷ 0x0a ∷ []) (file ls)) in
      let p : put_at (upto at) at (ended l) ≡ upto (at + (length l + 2)) = put_more at (ended l) (file ls) g (omega arith) ∙ ap (λ (k : ℕ). upto (at + k)) n in
      rw (o, le-leb (at + (length l + 3)) (min (length out) file_most) (omega (arith, some_file ls)))
      (ap (λ (b : List ℕ). done (at + (length l + 2)) false d b) p)

  -- a record that was read, put where it stood
  record_put : (c : Sofar) (xs : List Supplement) → Keeps c.before xs → (at : ℕ) (l : List ℕ) (ls : List (List ℕ)) (r : Record) → drop at s ≡ file (l ∷ ls) →
      read_parts c.last (in_list c.before xs) at (split l) ≡ Ok r →
      put_record (upto at) (state at false c) r s ≡ done (at + (length l + 2)) false (after c.before r) (upto (at + (length l + 2)))
  unfolding put_record print_record file
  record_put c xs k at l ls r e h =
      let m : at + length l ≤ length s =
      omega (arith, inside s at l (0x0a ∷ file ls) e, length-drop at s, ap length e, length-append l (0x0d ∷ 0x0a ∷ file ls)) in
      let p : parts (lent_held s r) ≡ split l = lent_back c.last (in_list c.before xs) s at (split l) (0x0d ∷ 0x0a ∷ file ls) r h (rw join_split e) (rw join_split m) in
      let a : read_parts c.last (context c.before) at (parts (lent_held s r)) ≡ Ok r =
      ap (read_parts c.last (context c.before) at) p ∙ same_parts _ _ (joins_alike c.before xs k) c.last c.before at (split l) ∙ h in
      ap₂ (λ (w : Result Record Refusal) (y : List ℕ). on_answer (upto at) (state at false c) w y (after c.before r)) a (ap join p ∙ join_split l)
      ∙ line_put at false c (after c.before r) l ls e

  -- closing, where the file has its end
  close_put : (at : ℕ) (c : Sofar) → drop at s ≡ file [] → closes c.last ≡ true → close_buffer (upto at) (state at false c) ≡ done (length s) true c (upto (length s))
  unfolding close_buffer file
  close_put at c e k =
      let m : length s ≡ at + 1 = omega (arith, length-drop at s, ap length e) in
      let o : length (upto at) ≡ length out = length_upto at (omega arith) in
      rw (k, o, le-leb (at + 1) (min (length out) file_most) (omega arith), m)
      (ap (λ (b : List ℕ). done (at + 1) true c b) (put_more at (0x1a ∷ []) [] e (omega arith)))

  -- one line, and those after it
  line_written : (c : Sofar) (xs : List Supplement) → Keeps c.before xs → (at : ℕ) (l : List ℕ) (ls : List (List ℕ)) (rest : Record → File) → drop at s ≡ file (l ∷ ls) →
      ((r : Record) → read_parts c.last (in_list c.before xs) at (split l) ≡ Ok r → (rest r).ending ≡ whole →
      put_all (map (item s) (rest r).records) (done (at + (length l + 2)) false (after c.before r) (upto (at + (length l + 2)))) ≡
      done (length s) true (after_all (after c.before r) (rest r).records) (upto (length s))) →
      (a : Result Record Refusal) → read_parts c.last (in_list c.before xs) at (split l) ≡ a → (on a rest).ending ≡ whole →
      put_all (map (item s) (on a rest).records) (done at false c (upto at)) ≡ done (length s) true (after_all c (on a rest).records) (upto (length s))
  unfolding put_all
  line_written c xs k at l ls rest e more (Ok r) h w =
      ap (λ (v : Left). next v (λ u. put_all (map (item s) (rest r).records) u)) (record_put c xs k at l ls r e h) ∙ more r h w
  line_written c xs k at l ls rest e more (Err f) h w = never_whole w

  -- All lines from an offset on, then the end.
  pub lines_written : (ls : List (List ℕ)) (at : ℕ) (c : Sofar) (xs : List Supplement) → Keeps c.before xs → (read_lines at c xs ls).ending ≡ whole → drop at s ≡ file ls →
      put_all (map (item s) (read_lines at c xs ls).records) (done at false c (upto at)) ≡
      done (length s) true (after_all c (read_lines at c xs ls).records) (upto (length s))
  unfolding read_lines put_all
  lines_written [] at c xs k w e =
      cases (closes c.last) (λ t. simp t (close_put at c e t)) (λ t. never_whole (simp t at w))
  lines_written (l ∷ ls) at c xs k w e =
      let z : at + length l + 2 ≡ at + (length l + 2) = omega arith in
      line_written c xs k at l ls (λ r. read_lines (at + length l + 2) (after c.before r) (supplements xs r) ls) e
      (λ r h v. rw (← z)
      (lines_written ls (at + length l + 2) (after c.before r) (supplements xs r)
      (keeps_on c.before xs k (λ x. list c.before.month (xs ++ (x ∷ []))) (λ x. refl) c.last at (split l) r h) v (after_line s at l ls e)))
      (read_parts c.last (in_list c.before xs) at (split l)) refl w
