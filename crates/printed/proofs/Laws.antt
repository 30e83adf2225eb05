-- What holds of the fields that dates and codes are written as, over the rules alone.
-- Assumes nothing.
use Prim.Native.Nat.{ℕ}
use mathlib.Core.Path.{◌≡◌, refl, ◌∙◌, sym, ap}
use mathlib.Core.Bool.{true, false, cond}
use mathlib.Core.List.{List}
use native.Mathlib.Omega.{arith}
use lib.ListN.{length}
use Rattle.cells.specs.Test.{Answer, took, refused, fault}
use Rattle.cells.proofs.Split.{split}
use Rattle.number.specs.Number.{figures, figure}
use Rattle.date.specs.Date.{is_date, read_date}
use Rattle.date.specs.Print.{print_date}
use Rattle.date.specs.declared.Date.{Date}
use Rattle.date.proofs.Laws as dates
use Rattle.usage.specs.Usage.{read_usage}
use Rattle.usage.specs.declared.Instruction.{Instruction}
use Rattle.usage_writer.specs.Writes.{WritesUsage}
use Rattle.usage_writer.specs.Print as usages
use Rattle.usage_writer.proofs.Laws as usages-laws
use Rattle.usage_writer.proofs.Writing as usages-writing
use Rattle.supplement.specs.Supplement.{read_supplement}
use Rattle.supplement.specs.declared.Supplement.{Supplement}
use Rattle.supplement_writer.specs.Writes.{WritesSupplement}
use Rattle.supplement_writer.specs.Print as supplements
use Rattle.supplement_writer.proofs.Laws as supplements-laws
use Rattle.supplement_writer.proofs.Writing as supplements-writing
use Rattle.text.specs.Lent.{no_field}
use Rattle.printed.specs.Printed.{date_field, reads_as, usage_field, supplement_field}
use Rattle.printed.proofs.Held.{long, held, none, reads}
use Rattle.std.specs.Prelude.{Err, Ok}

-- ---- dates
-- A date is written in its own style.
pub date_held : (t : Date) → is_date t ≡ true → date_field t ≡ print_date t
unfolding date_field
date_held t h = rw h

-- What is no date is written as no field.
pub date_none : (t : Date) → is_date t ≡ false → date_field t ≡ no_field
unfolding date_field
date_none t h = rw h

no_date : (u : Date) → read_date no_field ≡ took u → ⊥
unfolding read_date figures figure
no_date u h = let z : ◌≡◌ {A = ℕ} 0 1 = cc in omega arith

-- What a date's field reads as is the date.
pub date_reads : (t u : Date) → read_date (date_field t) ≡ took u → u ≡ t
date_reads t u h =
    split (is_date t)
    (λ e. let k : read_date (print_date t) ≡ took t = dates.written t e in
    let f : date_field t ≡ print_date t = date_held t e in
    cc)
    (λ e. absurd (no_date u (sym (ap read_date (date_none t e)) ∙ h)))

-- ---- usage codes
answered : (i : Instruction) (a : Answer Instruction) → a ≡ read_usage (usages.raw i) → WritesUsage i (cond (reads_as a i) (Ok (usages.raw i)) (Err (fault 35 0)))
answered i (took j) e = usages-writing.answered i (Ok j) e
answered i (refused n p) e = usages-writing.answered i (Err (record { number = n; place = p })) e

usage_written : (i : Instruction) → WritesUsage i (cond (reads_as (read_usage (usages.raw i)) i) (Ok (usages.raw i)) (Err (fault 35 0)))
usage_written i = answered i (read_usage (usages.raw i)) refl

no_usage_lem : (i : Instruction) → read_usage no_field ≡ took i → ⊥
unfolding read_usage
no_usage_lem i h = let z : ◌≡◌ {A = ℕ} 0 1 = cc in omega arith

-- A code that reads as an instruction has sixteen characters.
pub usage_long : (s : List ℕ) (i : Instruction) → read_usage s ≡ took i → length s ≡ 16
unfolding read_usage
usage_long s i h = long 16 s _ i h

-- A code that reads as an instruction is the instruction's field.
pub usage_held : (s : List ℕ) (i : Instruction) → read_usage s ≡ took i → usage_field i ≡ s
unfolding usage_field
usage_held s i h = held Instruction read_usage usages.raw usages-laws.back s i (reads_as (read_usage (usages.raw i)) i) (usage_written i) h

-- An instruction that no code reads as is written as no field.
pub usage_none : (i : Instruction) → ((s : List ℕ) → read_usage s ≡ took i → ⊥) → usage_field i ≡ no_field
unfolding usage_field
usage_none i h = none Instruction read_usage usages.raw usages-laws.back i (reads_as (read_usage (usages.raw i)) i) (usage_written i) h

-- What an instruction's field reads as is the instruction.
pub usage_reads : (i j : Instruction) → read_usage (usage_field i) ≡ took j → j ≡ i
unfolding usage_field
usage_reads i j h = reads Instruction read_usage usages.raw usages-laws.back i j (reads_as (read_usage (usages.raw i)) i) (usage_written i) (no_usage_lem j) h

-- ---- supplementary codes
no_supplement : (x : Supplement) → read_supplement no_field ≡ took x → ⊥
unfolding read_supplement
no_supplement x h = let z : ◌≡◌ {A = ℕ} 0 1 = cc in omega arith

supplement_answered : (x : Supplement) (a : Answer Supplement) → a ≡ read_supplement (supplements.raw x) →
    WritesSupplement x (cond (supplements.agrees a x) (Ok (supplements.raw x)) (Err (fault 35 0)))
supplement_answered x (took y) e = supplements-writing.answered x (Ok y) e
supplement_answered x (refused n p) e = supplements-writing.answered x (Err (record { number = n; place = p })) e

supplement_written : (x : Supplement) → WritesSupplement x (cond (supplements.agrees (read_supplement (supplements.raw x)) x) (Ok (supplements.raw x)) (Err (fault 35 0)))
supplement_written x = supplement_answered x (read_supplement (supplements.raw x)) refl

-- A code that reads as a record has eight characters.
pub supplement_long : (s : List ℕ) (x : Supplement) → read_supplement s ≡ took x → length s ≡ 8
unfolding read_supplement
supplement_long s x h = long 8 s _ x h

-- A code that reads as a record is the record's field.
pub supplement_held : (s : List ℕ) (x : Supplement) → read_supplement s ≡ took x → supplement_field x ≡ s
unfolding supplement_field
supplement_held s x h = held Supplement read_supplement supplements.raw supplements-laws.back s x (supplements.agrees (read_supplement (supplements.raw x)) x) (supplement_written x) h

-- A record that no code reads as is written as no field.
pub supplement_none : (x : Supplement) → ((s : List ℕ) → read_supplement s ≡ took x → ⊥) → supplement_field x ≡ no_field
unfolding supplement_field
supplement_none x h = none Supplement read_supplement supplements.raw supplements-laws.back x (supplements.agrees (read_supplement (supplements.raw x)) x) (supplement_written x) h

-- What a record's field reads as is the record.
pub supplement_reads : (x y : Supplement) → read_supplement (supplement_field x) ≡ took y → y ≡ x
unfolding supplement_field
supplement_reads x y h = reads Supplement read_supplement supplements.raw supplements-laws.back x y (supplements.agrees (read_supplement (supplements.raw x)) x) (supplement_written x) (no_supplement y) h
