-- What a file that is refused is told, from opening on: "20, 21, 22, then each record by 23, 24, 32, 25, then field by field 28, 26, 27, 30, 29, 31",
-- each with what stands in the table's column "Place".
-- Assumes nothing.
use Rattle.std.specs.Prelude.{ℕ, zero, suc, ◌+◌, ◌≤◌, ◌<◌, ◌≡◌, true, false, List, [], ◌∷◌, map, length, get_or}
use Rattle.cells.specs.Limits.{file_most}
use Rattle.cells.specs.Text.{bytes}
use Rattle.cells.specs.Test as test
use Rattle.line.specs.Frame.{WellFramed, Place}
use Rattle.line.specs.Fields.{split}
use Rattle.usage.specs.Usage.{read_usage}
use Rattle.supplement.specs.Supplement.{read_supplement}
use Rattle.supplement.specs.declared.Supplement.{Supplement}
use Rattle.order.specs.Order.{Sheet, Verdict}
use Rattle.field.specs.Field.{Context, free, usage_code, supplement_code, wrong}
use Rattle.field.specs.declared.Rule.{Rule}
use Rattle.row.specs.Table.{rules, counted}
use Rattle.record.specs.Record.{number_of, start, after, supplements}
use Rattle.record_line.specs.Line.{refusal, record_number}
use Rattle.record.specs.declared.Sofar.{Sofar}
use Rattle.record.specs.declared.Record.{Record}
use Rattle.record.specs.declared.Refusal.{Refusal}
use Rattle.reader.specs.File.{lines_of, in_list}
use Rattle.demands.specs.Numbers.{FieldNumber, at_field}
use Rattle.demands.specs.Taken.{Passes, field_tests, fields_in}

-- ---- the place
-- Where the line after the first k begins, of lines that begin at an offset: each has its bytes, CR and LF.
abbrev pub start_after : ℕ → List (List ℕ) → ℕ → ℕ
start_after at ls zero = at
start_after at [] (suc k) = at
start_after at (l ∷ ls) (suc k) = start_after (at + length l + 2) ls k

-- "A record's place is the offset of its first byte, at the end that of the 1Ah": after the version line and the lines of k records,
abbrev pub place_after : List ℕ → ℕ → ℕ
place_after s k = start_after 0 (lines_of s) (suc k)

-- and the line that begins there.
abbrev pub line_after : List ℕ → ℕ → List ℕ
line_after s k = get_or (lines_of s) (suc k) []

-- ---- what the records before it leave
-- For the fields of a line,
abbrev pub leaving : Sofar → List Record → Sofar
leaving c [] = c
leaving c (r ∷ rs) = leaving (after c.before r) rs

-- and as the supplements of its RP.
abbrev pub supplied : List Supplement → List Record → List Supplement
supplied xs [] = xs
supplied xs (r ∷ rs) = supplied (supplements xs r) rs

-- ---- a field
-- "Field by field", from the jth on: the kth is f, with the rule r, and those before it pass every test.
pub data Reaches (c : Context) : ℕ → List Rule → List (List ℕ) → ℕ → Rule → List ℕ → Type 0 where
  here : {j : ℕ} {r : Rule} {rs : List Rule} {f : List ℕ} {fs : List (List ℕ)} → Reaches c j (r ∷ rs) (f ∷ fs) j r f
  next : {j k : ℕ} {q r : Rule} {rs : List Rule} {e f : List ℕ} {fs : List (List ℕ)} →
      Passes (field_tests c q e) → Reaches c (j + 1) rs fs k r f → Reaches c j (q ∷ rs) (e ∷ fs) k r f

-- "29 code refused; its own number and place follow": those of the code that the field's rule asks for.
pub data CodeRefused (r : Rule) (f : List ℕ) : ℕ → ℕ → Type 0 where
  usage : {n p : ℕ} → r.form ≡ (usage_code free).form → read_usage f ≡ test.refused n p → CodeRefused r f n p
  supplement : {n p : ℕ} → r.form ≡ (supplement_code free).form → read_supplement f ≡ test.refused n p → CodeRefused r f n p

-- ---- a line
-- The number of the record on a line, as written before the first comma.
abbrev pub number_on : List ℕ → ℕ
number_on l = record_number (split l)

-- A line after records of these numbers, which leave c, and xs as the supplements of its RP: its number stands well, it has as many fields as the table says,
-- and the kth of them, counted from 1, is the first that may be wrong: f, with the rule r.
pub record AtField (before : List ℕ) (c : Sofar) (xs : List Supplement) (l : List ℕ) (k : ℕ) (r : Rule) (f : List ℕ) : Type 0 where
  pub stands : Verdict before (number_on l) 0
  pub count : counted (number_on l) (fields_in l) ≡ true
  pub reaches : Reaches (in_list c.before xs) 1 (rules (number_on l) (fields_in l)) (fields_in l) k r f

-- The line l at an offset is refused, after such records.
pub data WrongLine (before : List ℕ) (c : Sofar) (xs : List Supplement) (at : ℕ) (l : List ℕ) : Refusal → Type 0 where
  -- 23 "unknown record number": record
  unknown : Verdict before (number_on l) 23 → WrongLine before c xs at l (refusal 23 at)
  -- 24 "by record numbers alone, no records put just before this one would help": record
  hopeless : Verdict before (number_on l) 24 → WrongLine before c xs at l (refusal 24 at)
  -- 32 "some would: a needed record is missing": record
  missing : Verdict before (number_on l) 32 → WrongLine before c xs at l (refusal 32 at)
  -- 25 "number of fields": record
  count : Verdict before (number_on l) 0 → counted (number_on l) (fields_in l) ≡ false → WrongLine before c xs at l (refusal 25 at)
  -- 28, 26, 27, 30, 31: record, field
  field : {n p k : ℕ} {r : Rule} {f : List ℕ} → AtField before c xs l k r f → FieldNumber n p → wrong (in_list c.before xs) r f ≡ test.fault n p →
      WrongLine before c xs at l (at_field n at k 0 p)
  -- 29 "code refused; its own number and place follow": record, field
  code : {n p k : ℕ} {r : Rule} {f : List ℕ} → AtField before c xs l k r f → wrong (in_list c.before xs) r f ≡ test.fault 29 p → CodeRefused r f n p →
      WrongLine before c xs at l (at_field 29 at k n p)

-- ---- the file
-- "At most 16,384 bytes: version line `JAHIS5`": a file that passes 20, 21 and 22.
pub record Opens (s : List ℕ) : Type 0 where
  pub most : length s ≤ file_most
  pub framed : WellFramed s
  pub version : get_or (lines_of s) 0 [] ≡ bytes "JAHIS5"

-- The refusals of a file s, where rs are the records that were handed out.
pub data FileRefusal (s : List ℕ) (rs : List Record) : Refusal → Type 0 where
  -- 20 "file too long": 0
  too_long : file_most < length s → FileRefusal s rs (refusal 20 0)
  -- 21 "first byte where no well framed file agrees, or the end": offset
  frame : {at : ℕ} → length s ≤ file_most → Place s at → FileRefusal s rs (refusal 21 at)
  -- 22 "version line": 0
  version : length s ≤ file_most → WellFramed s → (get_or (lines_of s) 0 [] ≡ bytes "JAHIS5" → ⊥) → FileRefusal s rs (refusal 22 0)
  -- 23, 24, 32, 25, and 28, 26, 27, 30, 31, 29: the line after those of the records
  line : {f : Refusal} → Opens s → length rs + 1 < length (lines_of s) →
      WrongLine (map number_of rs) (leaving start rs) (supplied [] rs) (place_after s (length rs)) (line_after s (length rs)) f → FileRefusal s rs f
  -- 32 "(also at the end)": the 1Ah, which is the last byte
  end : Opens s → length rs + 1 ≡ length (lines_of s) → place_after s (length rs) + 1 ≡ length s → (Sheet (map number_of rs) → ⊥) →
      FileRefusal s rs (refusal 32 (place_after s (length rs)))
