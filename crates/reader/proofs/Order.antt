-- The records of a file stand in the order of a sheet.
-- Assumes nothing.
use Prim.Native.Nat.{ℕ, ◌+◌}
use mathlib.Core.Path.{◌≡◌, refl, sym, ap, subst, ◌∙◌}
use mathlib.Core.List.{List, [], ◌∷◌, ◌++◌, map, append-nil, append_assoc}
use native.Mathlib.Omega.{arith}
use borrow.Author.Tests.{eqb-true}
use lib.Dec.{eqb}
use lib.ListN.{length, get_or, drop}
use Rattle.cells.proofs.Split.{split as cases}
use Rattle.line.specs.Fields.{split}
use Rattle.supplement.specs.declared.Supplement.{Supplement}
use Rattle.order.specs.Order.{Begins, Sheet, last_of}
use Rattle.order.specs.Next.{follow, closes}
use Rattle.order.proofs.Laws.{at_start, last_is, stands, closing as closing_order}
use Rattle.field.specs.Field.{Context}
use Rattle.row.specs.Row.{read_row}
use Rattle.row.specs.declared.Row.{Row}
use Rattle.record.specs.Record.{number_of, start, after, supplements, record_from}
use Rattle.record_line.specs.Fields.{record_of}
use Rattle.record_line.specs.Line.{refusal, read_fields, record_number, read_parts}
use Rattle.record.specs.declared.Sofar.{Sofar}
use Rattle.record.specs.declared.Record.{Record}
use Rattle.record.specs.declared.Refusal.{Refusal}
use Rattle.reader.specs.Open.{file_fault}
use Rattle.reader.specs.File.{File, whole, stopped, lines_of, on, closing, in_list, read_lines, read_file}
use Rattle.std.specs.Prelude.{Err, Ok, Result}

-- a refusal is no record
no_record : {P : Type 0} (f : Refusal) (r : Record) → ◌≡◌ {A = Result Record Refusal} (Err f) (Ok r) → P
no_record f r h = absurd (let z : ◌≡◌ {A = ℕ} 0 1 = cc in omega arith)

same_record : (q r : Record) → ◌≡◌ {A = Result Record Refusal} (Ok q) (Ok r) → q ≡ r
same_record q r h = cc

-- The record of a number has that number.
pub its_number : (n at : ℕ) (fs : List (List ℕ)) → number_of (record_of n at fs) ≡ n
unfolding record_of record_from
its_number n at fs =
    cases (eqb n 51) (λ e. simp e (sym (eqb-true n 51 e)))
    (λ a.
    cases (eqb n 101) (λ e. simp (a, e) (sym (eqb-true n 101 e)))
    (λ b.
    cases (eqb n 111) (λ e. simp (a, b, e) (sym (eqb-true n 111 e)))
    (λ d.
    cases (eqb n 181) (λ e. simp (a, b, d, e) (sym (eqb-true n 181 e)))
    (λ f. cases (eqb n 201) (λ e. simp (a, b, d, f, e) (sym (eqb-true n 201 e))) (λ g. simp (a, b, d, f, g))))))

-- a record that is taken may stand after the last one
may_stand : (last : ℕ) (c : Context) (at : ℕ) (parts : List (List ℕ)) (r : Record) → read_parts last c at parts ≡ Ok r →
    follow last (number_of r) ≡ 0
unfolding read_parts read_fields
may_stand last c at parts r h =
    let n : ℕ = record_number parts in
    cases (eqb (follow last (record_number parts)) 0)
    (λ e.
    let w : Row = read_row c (record_number parts) (at + length (get_or parts 0 []) + 1) (drop 1 parts) in
    cases (eqb (read_row c (record_number parts) (at + length (get_or parts 0 []) + 1) (drop 1 parts)).fault.number 0)
    (λ z.
    let q : record_of (record_number parts) (at + length (get_or parts 0 []) + 1) (drop 1 parts) ≡ r = same_record _ r (simp (e, z) at h) in
    let k : number_of r ≡ record_number parts = ap number_of (sym q) ∙ its_number (record_number parts) (at + length (get_or parts 0 []) + 1) (drop 1 parts) in
    ap (follow last) k ∙ eqb-true _ _ e)
    (λ z. no_record _ r (simp (e, z) at h)))
    (λ e. no_record _ r (simp e at h))

-- What a file's records stand for, after those before them: the beginning of a sheet, and a sheet where the file is whole.
pub record Stand (before : List ℕ) (f : File) : Type 0 where
  pub begins : Begins (before ++ map number_of f.records)
  pub sheet : f.ending ≡ whole → Sheet (before ++ map number_of f.records)

not_whole : {P : Type 0} (f : Refusal) → stopped f ≡ whole → P
not_whole f h = absurd (let z : ◌≡◌ {A = ℕ} 0 1 = cc in omega arith)

refused_here : (before : List ℕ) (f : Refusal) → Begins before → Stand before (record { records = []; ending = stopped f })
refused_here before f b = record { begins = rw (append-nil before) b; sheet = λ h. not_whole f h }

at_end : (before : List ℕ) (at : ℕ) (c : Sofar) → Begins before → c.last ≡ last_of 0 before → Stand before (closing at c)
at_end before at c b l =
    cases (closes c.last)
    (λ e. rw e
    (record {
      begins = rw (append-nil before) b;
      sheet = λ h. rw (append-nil before) ((closing_order before b).0 (ap closes (sym l) ∙ e));
    }))
    (λ e. rw e (refused_here before (refusal 32 at) b))

-- one record, and those after it
more : (before : List ℕ) (r : Record) (f : File) → Stand (before ++ (number_of r ∷ [])) f →
    Stand before (record { records = r ∷ f.records; ending = f.ending })
more before r f k =
    let e : (before ++ (number_of r ∷ [])) ++ map number_of f.records ≡ before ++ (number_of r ∷ map number_of f.records) =
    append_assoc before (number_of r ∷ []) (map number_of f.records) in
    record { begins = subst Begins e k.begins; sheet = λ h. subst Sheet e (k.sheet h) }

-- one line, where those after it stand
by_answer : (before : List ℕ) (last : ℕ) (c : Context) (at : ℕ) (parts : List (List ℕ)) (rest : Record → File) → Begins before →
    last ≡ last_of 0 before → ((r : Record) → Begins (before ++ (number_of r ∷ [])) → Stand (before ++ (number_of r ∷ [])) (rest r)) →
    (a : Result Record Refusal) → read_parts last c at parts ≡ a → Stand before (on a rest)
by_answer before last c at parts rest b l k (Err f) e = refused_here before f b
by_answer before last c at parts rest b l k (Ok r) e =
    let z : follow (last_of 0 before) (number_of r) ≡ 0 = ap (λ (q : ℕ). follow q (number_of r)) (sym l) ∙ may_stand last c at parts r e in
    more before r (rest r) (k r ((stands before (number_of r) b).0 z))

by_lines : (ls : List (List ℕ)) (before : List ℕ) (at : ℕ) (c : Sofar) (xs : List Supplement) → Begins before → c.last ≡ last_of 0 before →
    Stand before (read_lines at c xs ls)
unfolding read_lines
by_lines [] before at c xs b l = at_end before at c b l
by_lines (x ∷ ls) before at c xs b l =
    by_answer before c.last (in_list c.before xs) at (split x) (λ r. read_lines (at + length x + 2) (after c.before r) (supplements xs r) ls) b l
    (λ r h.
    by_lines ls (before ++ (number_of r ∷ [])) (at + length x + 2) (after c.before r) (supplements xs r) h (sym (last_is 0 (number_of r) before)))
    (read_parts c.last (in_list c.before xs) at (split x)) refl

-- The records that a file hands out begin a sheet, by document 01's order, and those of a file that is taken are one.
pub stand : (s : List ℕ) → Stand [] (read_file s)
unfolding read_file start last_of
stand s =
    cases (eqb (file_fault s).number 0) (λ e. rw e (by_lines (drop 1 (lines_of s)) [] 8 start [] at_start refl))
    (λ e. rw e (refused_here [] _ at_start))
