-- The records of a file that is taken, line by line: before the first RP there is no date code, and each RP's date codes are the run for the days
-- that they note, for the month of record 51.
-- Assumes nothing.
use Prim.Native.Nat.{ℕ, ◌+◌, ◌≤◌, ◌<◌}
use mathlib.Core.Path.{◌≡◌, refl, ◌∙◌, ap, subst}
use mathlib.Core.Bool.{true, false, cond}
use mathlib.Core.List.{List, [], ◌∷◌, ◌++◌, map, append-nil}
use native.Mathlib.Omega.{arith}
use borrow.Author.Tests.{eqb-true, eqb-false, ltb-true, ltb-false}
use lib.Dec.{eqb, ltb}
use lib.ListN.{length, drop}
use lib.Seq.{append_snoc}
use Rattle.cells.proofs.Split.{split as cases}
use Rattle.line.specs.Fields.{split}
use Rattle.supplement.specs.declared.Supplement.{Supplement}
use Rattle.order.specs.Next.{follow, closes}
use Rattle.order.proofs.Bools.{clash}
use Rattle.schedule.specs.Schedule.{list}
use Rattle.schedule.proofs.Laws.{nothing_kept}
use Rattle.record.specs.declared.Sofar.{Sofar}
use Rattle.row.specs.Table.{typed}
use Rattle.record.specs.Record.{text_at, start, after, with_supplement, supplements}
use Rattle.record_line.specs.Line.{read_parts}
use Rattle.record.specs.declared.Record.{Record}
use Rattle.record.specs.declared.Record.TheVariants.{Issue, Rp, Usage, Supplement as Supply, Drug, Kept}
use Rattle.record_line.proofs.Leaves.{Keeps, keeps_on}
use Rattle.reader.specs.Open.{file_fault}
use Rattle.reader.specs.File.{File, whole, taken, lines_of, on, read_lines, read_file, in_list}
use Rattle.held.specs.Held.{Value, none, number, amount, text, day, usage, supplement, Held, optional, usage_value, supplement_value, held}
use Rattle.held.proofs.File.{never_whole}
use Rattle.demands.specs.Blank.{date_in, dates_in, begins_rp, dates_upto}
use Rattle.demands.proofs.Dates.{Reads, reads_append, only_dates, Noted, InRp, noted}
use Rattle.demands.proofs.Steps.{no_header, after_51, after_101, Stood, stood}
use Rattle.std.specs.Prelude.{Err, None, Ok, Option, Result, Some}
use Rattle.usage.specs.declared.Instruction.{Instruction}
use Rattle.record.specs.declared.Refusal.{Refusal}

-- ---- the date codes of a record are those of its supplement
no_usage_lem : (k : Option Instruction) → date_in (usage_value k) ≡ []
no_usage_lem (Some i) = refl
no_usage_lem None = refl

no_optional : (n : ℕ) → date_in (optional n) ≡ []
no_optional n = cases (eqb n 0) (λ e. rw e) (λ e. rw e)

no_texts : (fs : List (List ℕ)) → dates_in (map text fs) ≡ []
no_texts [] = refl
no_texts (f ∷ fs) = no_texts fs

dates_181 : (k : Option Supplement) (xs : List Supplement) → (date_in (supplement_value k) ++ []) ++ only_dates xs ≡ only_dates (with_supplement [] k ++ xs)
dates_181 (Some x) xs = ap (λ (l : List Supplement). l ++ only_dates xs) (append-nil (date_in (supplement x)))
dates_181 None xs = refl

-- The supplements up to the next RP.
abbrev upto : List Record → List Supplement
upto [] = []
upto (Issue x ∷ rs) = upto rs
upto (Rp x ∷ rs) = []
upto (Usage x ∷ rs) = upto rs
upto (Supply x ∷ rs) = with_supplement [] x.code ++ upto rs
upto (Drug x ∷ rs) = upto rs
upto (Kept x ∷ rs) = upto rs

-- what is kept begins no RP
no_rp : (n : ℕ) → eqb (cond (typed n) 0 n) 101 ≡ false
unfolding typed
no_rp n =
    cases (eqb n 101) (λ e. let q : n ≡ 101 = eqb-true n 101 e in rw q)
    (λ e. cases (typed n) (λ t. rw t) (λ t. rw t e))

module _ (s : List ℕ) where
  -- what the records of the file hold
  abbrev holds : List Record → List Held
  holds rs = map (held s) rs

  dates_upto_lem : (rs : List Record) → dates_upto (holds rs) ≡ only_dates (upto rs)
  unfolding dates_upto
  dates_upto_lem [] = refl
  dates_upto_lem (Issue x ∷ rs) = dates_upto_lem rs
  dates_upto_lem (Rp x ∷ rs) = refl
  dates_upto_lem (Usage x ∷ rs) = rw (no_usage_lem x.code, no_optional x.times) (dates_upto_lem rs)
  dates_upto_lem (Supply x ∷ rs) = rw (no_optional x.kind, dates_upto_lem rs) (dates_181 x.code (upto rs))
  dates_upto_lem (Drug x ∷ rs) = rw (no_optional x.kind) (dates_upto_lem rs)
  dates_upto_lem (Kept x ∷ rs) = rw (no_rp x.number, no_texts (split (text_at s x.fields))) (dates_upto_lem rs)

-- ---- the month of record 51, and each RP
-- The month after a record that holds these values.
abbrev pub month_after : ℕ → List Value → ℕ
month_after m [] = m
month_after m (none ∷ vs) = m
month_after m (number n ∷ vs) = m
month_after m (amount n ∷ vs) = m
month_after m (text b ∷ vs) = m
month_after m (day t ∷ vs) = t.month
month_after m (usage i ∷ vs) = m
month_after m (supplement x ∷ vs) = m

month_stays : (m : ℕ) (fs : List (List ℕ)) → month_after m (map text fs) ≡ m
month_stays m [] = refl
month_stays m (f ∷ fs) = refl

-- The date codes of each RP are the run for the days that they note.
abbrev pub EachRp : ℕ → List Held → Type 0
EachRp m [] = Unit
EachRp m (h ∷ hs) = (begins_rp h ≡ true → Noted m (dates_in h.values ++ dates_upto hs)) × EachRp (month_after m h.values) hs

-- ---- along the records
-- What is known before a record: the supplements so far are an allowed list and were read, and after record 51 there is a month.
record Sure (c : Sofar) (xs : List Supplement) : Type 0 where
  keeps : Keeps c.before xs
  read : Reads xs
  month : 51 ≤ c.last → (1 ≤ c.before.month) × (c.before.month ≤ 12)

-- What holds of the records from there on.
record Rest (s : List ℕ) (c : Sofar) (xs : List Supplement) (rs : List Record) : Type 0 where
  within : 101 ≤ c.last → InRp c.before.month (xs ++ upto rs)
  ahead : c.last < 101 → upto rs ≡ []
  each : EachRp c.before.month (holds s rs)

-- the RP ends here
closed : (c : Sofar) (xs : List Supplement) → Sure c xs → 101 ≤ c.last → InRp c.before.month (xs ++ [])
closed c xs k l =
    let m = k.month (omega arith) in
    rw (append-nil xs) (record { low = m.0; high = m.1; listed = k.keeps.listed; read = k.read })

-- a supplement more
more_read : (xs : List Supplement) (k : Option Supplement) → Reads xs → Reads (with_supplement [] k) → Reads (with_supplement xs k)
more_read xs (Some x) h r = reads_append xs (x ∷ []) h r
more_read xs None h r = h

one_more : (xs ys : List Supplement) (k : Option Supplement) → with_supplement xs k ++ ys ≡ xs ++ (with_supplement [] k ++ ys)
one_more xs ys (Some x) = append_snoc xs x ys
one_more xs ys None = refl

-- what is kept has none of the table's numbers
past : (m n : ℕ) → typed m ≡ true → typed n ≡ false → m ≤ n → m < n
past m n a b l =
    cases (eqb n m) (λ e. clash (ap typed (eqb-true n m e) ∙ a) b) (λ e. let d : n ≡ m → ⊥ = eqb-false n m e in omega arith)

is_51 : typed 51 ≡ true
unfolding typed
is_51 = refl

is_101 : typed 101 ≡ true
unfolding typed
is_101 = refl

-- what is known after a record
sure : (c : Sofar) (xs : List Supplement) (r : Record) → Sure c xs → Stood c.last r → Keeps (after c.before r).before (supplements xs r) → Sure (after c.before r) (supplements xs r)
sure c xs (Issue x) k t e = record { keeps = e; read = tt; month = λ l. t.right }
sure c xs (Rp x) k t e = record { keeps = e; read = tt; month = λ l. k.month (after_51 c.last 101 t.follows (omega arith)) }
sure c xs (Usage x) k t e = record { keeps = e; read = k.read; month = λ l. k.month (after_51 c.last 111 t.follows (omega arith)) }
sure c xs (Supply x) k t e =
    record {
      keeps = e;
      read = more_read xs x.code k.read t.right;
      month = λ l. k.month (after_51 c.last 181 t.follows (omega arith));
    }
sure c xs (Drug x) k t e = record { keeps = e; read = k.read; month = λ l. k.month (after_51 c.last 201 t.follows (omega arith)) }
sure c xs (Kept x) k t e =
    record {
      keeps = e;
      read = k.read;
      month = λ l. k.month (after_51 c.last x.number t.follows (past 51 x.number is_51 t.right l));
    }

-- no record past 101 stands before the first RP
not_ahead : {P : Type 0} (q n : ℕ) → follow q n ≡ 0 → 101 < n → q < 101 → P
not_ahead q n h l b = absurd (let k : 101 ≤ q = after_101 q n h l in omega arith)

-- what holds from a record on, where it holds after it
rest : (s : List ℕ) (c : Sofar) (xs : List Supplement) (r : Record) (rs : List Record) → Sure c xs → Stood c.last r → Rest s (after c.before r) (supplements xs r) rs → Rest s c xs (r ∷ rs)
rest s c xs (Issue x) rs k t o =
    record {
      within = λ l. absurd (let h = no_header c.last 51 t.follows l in omega arith);
      ahead = λ l. o.ahead (omega arith);
      each = (λ e. clash e refl, o.each);
    }
rest s c xs (Rp x) rs k t o =
    record {
      within = closed c xs k;
      ahead = λ l. refl;
      each = (λ e. rw (dates_upto_lem s rs) (noted c.before.month (upto rs) (o.within (omega arith))), o.each);
    }
rest s c xs (Usage x) rs k t o =
    record {
      within = λ l. o.within (omega arith);
      ahead = not_ahead c.last 111 t.follows (omega arith);
      each = (λ e. clash e refl, o.each);
    }
rest s c xs (Supply x) rs k t o =
    record {
      within = λ l. rw (one_more xs (upto rs) x.code) at (o.within (omega arith));
      ahead = not_ahead c.last 181 t.follows (omega arith);
      each = (λ e. clash e refl, o.each);
    }
rest s c xs (Drug x) rs k t o =
    record {
      within = λ l. o.within (omega arith);
      ahead = not_ahead c.last 201 t.follows (omega arith);
      each = (λ e. clash e refl, o.each);
    }
rest s c xs (Kept x) rs k t o =
    record {
      within = λ l. o.within (no_header c.last x.number t.follows l);
      ahead =
          λ l. cases (ltb x.number 101) (λ e. o.ahead (ltb-true _ _ e))
          (λ e. not_ahead c.last x.number t.follows (past 101 x.number is_101 t.right (ltb-false _ _ e)) l);
      each = (λ e. clash e (no_rp x.number), rw (month_stays c.before.month (split (text_at s x.fields))) o.each);
    }

-- ---- along the lines
module _ (s : List ℕ) where
  -- one line, and those after it
  line_rest : (c : Sofar) (xs : List Supplement) → Sure c xs → (at : ℕ) (l : List ℕ) (more : Record → File) →
      ((r : Record) → Sure (after c.before r) (supplements xs r) → (more r).ending ≡ whole → Rest s (after c.before r) (supplements xs r) (more r).records) →
      (a : Result Record Refusal) → read_parts c.last (in_list c.before xs) at (split l) ≡ a → (on a more).ending ≡ whole → Rest s c xs (on a more).records
  line_rest c xs k at l more f (Ok r) h w =
      let t = stood c.last (in_list c.before xs) at (split l) r h in
      let e = keeps_on c.before xs k.keeps (λ x. list c.before.month (xs ++ (x ∷ []))) (λ x. refl) c.last at (split l) r h in
      rest s c xs r (more r).records k t (f r (sure c xs r k t e) w)
  line_rest c xs k at l more f (Err x) h w = never_whole w

  lines_rest : (ls : List (List ℕ)) (at : ℕ) (c : Sofar) (xs : List Supplement) → Sure c xs → (read_lines at c xs ls).ending ≡ whole → Rest s c xs (read_lines at c xs ls).records
  unfolding read_lines
  lines_rest [] at c xs k w =
      cases (closes c.last) (λ t. simp t (record { within = closed c xs k; ahead = λ l. refl; each = tt })) (λ t. never_whole (simp t at w))
  lines_rest (l ∷ ls) at c xs k w =
      line_rest c xs k at l (λ r. read_lines (at + length l + 2) (after c.before r) (supplements xs r) ls)
      (λ r v. lines_rest ls (at + length l + 2) (after c.before r) (supplements xs r) v)
      (read_parts c.last (in_list c.before xs) at (split l)) refl w

  at_start : Sure start []
  unfolding start
  at_start = record { keeps = record { listed = nothing_kept 0; keeps = refl }; read = tt; month = λ l. absurd (omega arith) }

  -- The records of a file that is taken: no date code before the first RP, and each RP.
  pub record Whole (rs : List Record) : Type 0 where
    pub none_before : dates_upto (map (held s) rs) ≡ []
    pub each : EachRp 0 (map (held s) rs)

  whole_file : (read_file s).ending ≡ whole → Whole (read_file s).records
  unfolding read_file start
  whole_file h =
      cases (eqb (file_fault s).number 0)
      (λ e. let o = lines_rest (drop 1 (lines_of s)) 8 start [] at_start (simp e at h) in
      simp e (record { none_before = dates_upto_lem s (read_lines 8 start [] (drop 1 (lines_of s))).records ∙ ap only_dates (o.ahead (omega arith)); each = o.each }))
      (λ e. never_whole (simp e at h))

  pub of_file : (rs : List Record) → read_file s ≡ taken rs → Whole rs
  of_file rs h = subst Whole (ap (λ (f : File). f.records) h) (whole_file (ap (λ (f : File). f.ending) h))
