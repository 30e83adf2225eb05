-- What document 01 takes, and what its rules say of it: a usage code, a supplementary code, a run of date codes, a file.
-- Assumes nothing.
use Rattle.std.specs.Prelude.{ℕ, ◌+◌, ◌%◌, ◌≤◌, ◌≡◌, true, cond, List, [], ◌∷◌, ◌++◌, map, length, get_or, drop}
use Rattle.cells.specs.Limits.{file_most}
use Rattle.cells.specs.Text.{bytes}
use Rattle.cells.specs.Test.{Test, test, took}
use Rattle.line.specs.Frame.{plain_lines, file}
use Rattle.line.specs.Fields.{split}
use Rattle.usage.specs.Usage as usage
use Rattle.usage.specs.declared.Instruction.{Instruction}
use Rattle.supplement.specs.Supplement as supplement
use Rattle.supplement.specs.declared.Supplement.{Supplement}
use Rattle.days.specs.Run.{code_of, allowed, set_of, a_month, answers_in}
use Rattle.order.specs.Order.{Sheet}
use Rattle.schedule.specs.Schedule.{dates}
use Rattle.field.specs.Field.{Context, is_empty, present, filled}
use Rattle.field.specs.declared.Rule.{Rule}
use Rattle.row.specs.Table.{rules, counted}
use Rattle.record.specs.Record.{number_of, start, after, supplements}
use Rattle.record_line.specs.Fields.{record_of}
use Rattle.record_line.specs.Line.{record_number}
use Rattle.record.specs.declared.Sofar.{Sofar}
use Rattle.record.specs.declared.Record.{Record}
use Rattle.reader.specs.File.{in_list}

-- ---- codes
-- Every test is passed.
abbrev pub Passes : List Test → Type 0
Passes [] = Unit
Passes (t ∷ ts) = (t.passed ≡ true) × Passes ts

-- "Usage code, character by character": sixteen characters that pass every test; `says` is what they say.
pub record TakenUsage (s : List ℕ) (i : Instruction) : Type 0 where
  pub sixteen : length s ≡ 16
  pub passes : Passes (usage.frame s ++ usage.timing s)
  pub is : usage.says s ≡ i

-- "Supplementary code": eight characters that pass every test.
pub record TakenSupplement (s : List ℕ) (x : Supplement) : Type 0 where
  pub eight : length s ≡ 8
  pub passes : Passes (supplement.tests s)
  pub is : supplement.says s ≡ x

-- "A run is one or more D codes for an issue month 1 to 12": whole codes, each read as a D code, in the allowed order; they name these days.
pub record TakenRun (issue : ℕ) (s cells : List ℕ) : Type 0 where
  pub month : a_month issue ≡ true
  pub whole : length s % 8 ≡ 0
  pub codes : List Supplement
  pub reads : answers_in s ≡ map took codes
  pub only_dates : dates codes ≡ true
  pub order : allowed issue (map code_of codes) ≡ true
  pub names : set_of (map code_of codes) ≡ cells

-- ---- a line
-- What a field is tested for, by its rule: "28", and where it is filled "26, 27, 30, 29, 31".
abbrev pub field_tests : Context → Rule → List ℕ → List Test
field_tests c r f = test 28 0 (present r f) ∷ cond (is_empty f) [] (filled c r f)

-- "Field by field": each passes every test.
abbrev pub FieldsPass : Context → List Rule → List (List ℕ) → Type 0
FieldsPass c [] fs = Unit
FieldsPass c (r ∷ rs) [] = Unit
FieldsPass c (r ∷ rs) (f ∷ fs) = Passes (field_tests c r f) × FieldsPass c rs fs

-- The fields of a record number n, after what the records before leave: as many as the table says ("25"), and each passes.
pub record RightFields (c : Context) (n : ℕ) (fs : List (List ℕ)) : Type 0 where
  pub count : counted n fs ≡ true
  pub pass : FieldsPass c (rules n fs) fs

-- The fields of a line, "after the record number".
abbrev pub fields_in : List ℕ → List (List ℕ)
fields_in l = drop 1 (split l)

-- The line at an offset is right, and says the record r. `xs` are the supplements before it in its RP: "in an RP, kind 8 records hold one I, W or C, or
-- one date run for the month of record 51".
pub record RightLine (c : Sofar) (xs : List Supplement) (at : ℕ) (l : List ℕ) (r : Record) : Type 0 where
  pub fields : RightFields (in_list c.before xs) (record_number (split l)) (fields_in l)
  pub is : record_of (record_number (split l)) (at + length (get_or (split l) 0 []) + 1) (fields_in l) ≡ r

-- Lines, one after the other, each after what the records before it leave.
abbrev pub RightLines : ℕ → Sofar → List Supplement → List (List ℕ) → List Record → Type 0
RightLines at c xs [] [] = Unit
RightLines at c xs [] (r ∷ rs) = ⊥
RightLines at c xs (l ∷ ls) [] = ⊥
RightLines at c xs (l ∷ ls) (r ∷ rs) = RightLine c xs at l r × RightLines (at + length l + 2) (after c.before r) (supplements xs r) ls rs

-- ---- the file
-- "At most 16,384 bytes: version line `JAHIS5`, records, each ended by CR LF, then one byte 1Ah. Other bytes below 20h, and 7Fh, never stand."
-- The records' numbers are a sheet, and each line is right and says its record.
pub record TakenFile (s : List ℕ) (rs : List Record) : Type 0 where
  pub most : length s ≤ file_most
  pub lines : List (List ℕ)
  pub plain : plain_lines lines ≡ true
  pub made : s ≡ file (bytes "JAHIS5" ∷ lines)
  pub order : Sheet (map number_of rs)
  pub right : RightLines 8 start [] lines rs
