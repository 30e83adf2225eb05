-- Document 01, "Numbers a caller gets back": which numbers each call answers, each with what stands in the table's column "Place".
-- Assumes nothing.
use Rattle.std.specs.Prelude.{ℕ, ◌+◌, ◌-◌, ◌%◌, ◌≤◌, ◌<◌, ◌≡◌, true, false, List, [], ◌∷◌, ◌++◌, ◌⊎◌, length, get_or}
use Rattle.cells.specs.Text.{among, digit}
use Rattle.cells.specs.Test as test
use Rattle.cells.specs.Cells.{char}
use Rattle.usage.specs.Usage.{details, kinds, occasions, full_day, table8, in_table, pairs, in_pairs}
use Rattle.supplement.specs.Supplement.{last_day, empty_week}
use Rattle.supplement.specs.declared.Supplement.{Supplement}
use Rattle.days.specs.Run.{takes, a_month, answers_in, read_run}
use Rattle.days_writer.specs.Set.{writable}
use Rattle.schedule.specs.Schedule.{date_run}
use Rattle.date.specs.Date.{exists, is_date}
use Rattle.date.specs.Print.{print_date}
use Rattle.date.specs.declared.Date.{Date}
use Rattle.line.specs.Fields.{fields_at}
use Rattle.record_line.specs.Line.{refusal}
use Rattle.record.specs.declared.Refusal.{Refusal}

-- "Characters, codes and fields count from 1 (fields after the record number), offsets from 0."
-- A usage code's number and place, by its characters: itself is the place of a character after the timing kind.
pub data UsageNumber (s : List ℕ) : ℕ → ℕ → Type 0 where
  -- 1 "code not 16 or 8 long": 0
  not_sixteen : (length s ≡ 16 → ⊥) → UsageNumber s 1 0
  -- 2, 3, 4 "1st character unknown; detail; timing kind": 1, 2, 3
  class : among "12" (char s 1) ≡ false → UsageNumber s 2 1
  detail : among (details (char s 1)) (char s 2) ≡ false → UsageNumber s 3 2
  kind : among (kinds (char s 1) (char s 2)) (char s 3) ≡ false → UsageNumber s 4 3
  -- 5 "character outside its set": itself
  outside : {p : ℕ} → 4 ≤ p → p ≤ 16 → UsageNumber s 5 p
  -- 6 "unused character not 0": itself
  unused : {p : ℕ} → 4 ≤ p → p ≤ 16 → among "0" (char s p) ≡ false → UsageNumber s 6 p
  -- 7 "count differs from occasions": 4
  count : among "16" (char s 3) ≡ true → (digit (char s 4) ≡ occasions s → ⊥) → UsageNumber s 7 4
  -- 8 "P rule; table row or pair": 10; first of them
  fifteen : among "1" (char s 3) ≡ true → among "P" (char s 10) ≡ true → full_day s ≡ false → UsageNumber s 8 10
  table_row : among "5" (char s 3) ≡ true → in_table table8 (char s 5) (char s 6) (char s 7) ≡ false → UsageNumber s 8 5
  pair : among "7" (char s 3) ≡ true → in_pairs pairs (char s 4) (char s 5) ≡ false → UsageNumber s 8 4
  -- 9 "hour or day not rising": itself
  hour : {p : ℕ} → among "3" (char s 3) ≡ true → 6 ≤ p → p ≤ 16 → digit (char s p) ≤ digit (char s (p - 1)) → UsageNumber s 9 p

-- A supplementary code's number and place, by its characters: itself is the place of a character after the letter.
pub data SupplementNumber (s : List ℕ) : ℕ → ℕ → Type 0 where
  -- 1 "code not 16 or 8 long": 0
  not_eight : (length s ≡ 8 → ⊥) → SupplementNumber s 1 0
  -- 2 "1st character unknown": 1
  letter : among "IWDCV" (char s 1) ≡ false → SupplementNumber s 2 1
  -- 5 "character outside its set": itself
  outside : {p : ℕ} → 2 ≤ p → p ≤ 8 → SupplementNumber s 5 p
  -- 6 "unused character not 0": itself
  unused : {p : ℕ} → 2 ≤ p → p ≤ 8 → among "0" (char s p) ≡ false → SupplementNumber s 6 p
  -- 8 "empty week": 2
  week : among "W" (char s 1) ≡ true → empty_week s ≡ true → SupplementNumber s 8 2
  -- 8 "no such day": itself, a day that its month has not
  day : {p : ℕ} → among "D" (char s 1) ≡ true → 3 ≤ p → p ≤ 8 → last_day (digit (char s 2)) < digit (char s p) → SupplementNumber s 8 p
  -- 9 "hour or day not rising": itself
  rising : {p : ℕ} → among "D" (char s 1) ≡ true → 4 ≤ p → p ≤ 8 → digit (char s p) ≤ digit (char s (p - 1)) → SupplementNumber s 9 p

-- "Code by code", from the jth on, after codes that read as xs: the kth is answered by a, and those before it, which read as ys, are an allowed run, each up to it.
pub data Comes (issue : ℕ) : ℕ → List Supplement → List (test.Answer Supplement) → ℕ → List Supplement → test.Answer Supplement → Type 0 where
  here : {j : ℕ} {xs : List Supplement} {a : test.Answer Supplement} {more : List (test.Answer Supplement)} → Comes issue j xs (a ∷ more) j xs a
  next : {j k : ℕ} {xs ys : List Supplement} {x : Supplement} {a : test.Answer Supplement} {more : List (test.Answer Supplement)} →
      date_run issue (xs ++ (x ∷ [])) ≡ true → Comes issue (j + 1) (xs ++ (x ∷ [])) more k ys a → Comes issue j xs (test.took x ∷ more) k ys a

-- A run for an issue month: number, place, and for a code's own refusal the code's number. "Runs: 10, 1, then code by code its own refusal and 12."
pub data RunNumber (issue : ℕ) (s : List ℕ) : ℕ → ℕ → ℕ → Type 0 where
  -- 10 "issue month not 1 to 12": 0
  month : a_month issue ≡ false → RunNumber issue s 10 0 0
  -- 1 "run not whole codes": 0
  not_whole : a_month issue ≡ true → (length s % 8 ≡ 0 → ⊥) → RunNumber issue s 1 0 0
  -- 12 "run empty (0)"
  empty : a_month issue ≡ true → length s ≡ 0 → RunNumber issue s 12 0 0
  -- 12 "the codes up to this one begin no allowed run": code number
  no_run : {k : ℕ} {xs : List Supplement} {x : Supplement} → a_month issue ≡ true → length s % 8 ≡ 0 → Comes issue 1 [] (answers_in s) k xs (test.took x) →
      date_run issue (xs ++ (x ∷ [])) ≡ false → RunNumber issue s 12 k 0
  -- "its own refusal (the code number with it)", of which `SupplementNumber` says more
  own : {n p k : ℕ} {xs : List Supplement} → a_month issue ≡ true → length s % 8 ≡ 0 → Comes issue 1 [] (answers_in s) k xs (test.refused n p) →
      RunNumber issue s n p k

-- A set of days that is not written for an issue month into a buffer: number and place. "Sets: 10, 11, 33 exactly when the buffer is shorter than the codes."
pub data SetNumber (issue : ℕ) (cells buffer : List ℕ) : ℕ → ℕ → Type 0 where
  -- 10 "issue month not 1 to 12": 0
  month : a_month issue ≡ false → SetNumber issue cells buffer 10 0
  -- 11 "day set cannot be written": 0
  cannot : a_month issue ≡ true → writable cells ≡ false → SetNumber issue cells buffer 11 0
  -- 33 "no room": 0
  room : (run : List ℕ) → read_run issue run ≡ takes cells → length buffer < length run → SetNumber issue cells buffer 33 0

-- A year, a month and a day that are no date.
pub data DateNumber (y m d : ℕ) : ℕ → ℕ → Type 0 where
  -- 27 "no such day or year", which is one "from 1868 to 2099": 0
  no_date : (1868 ≤ y → y ≤ 2099 → exists y m d ≡ true → ⊥) → DateNumber y m d 27 0

-- Characters that are no date's.
pub data DateTextNumber (s : List ℕ) : ℕ → ℕ → Type 0 where
  -- 27 "number, date, amount, site or drug code": no date is written so
  no_date : ((t : Date) → is_date t ≡ true → print_date t ≡ s → ⊥) → DateTextNumber s 27 0

-- The numbers of a record,
pub data RecordNumber : ℕ → Type 0 where
  -- 23 "unknown record number"
  unknown : RecordNumber 23
  -- 24 "by record numbers alone, no records put just before this one would help"
  hopeless : RecordNumber 24
  -- 32 "some would: a needed record is missing (also at the end)"
  missing : RecordNumber 32
  -- 25 "number of fields"
  count : RecordNumber 25

-- of a field, with where in the field: 0 where there is no place to name,
pub data FieldNumber : ℕ → ℕ → Type 0 where
  -- 28 "required field empty, or forbidden one filled"
  need : FieldNumber 28 0
  -- 26 "field with a byte maximum: badly formed, end space, too long"
  text : FieldNumber 26 0
  -- 27 "number, date, amount, site or drug code"
  value : FieldNumber 27 0
  -- 30 "RP number or serial not as ordered"
  order : FieldNumber 30 0
  -- 31 "this supplement, with those before it in its RP, begins no allowed list"
  list : FieldNumber 31 0

-- and of a code in a field, by its bytes.
abbrev pub CodeNumber : List ℕ → ℕ → ℕ → Type 0
CodeNumber f n p = UsageNumber f n p ⊎ SupplementNumber f n p

-- A refusal at a field of the record at an offset, with a code's own number, and where in the field.
abbrev pub at_field : ℕ → ℕ → ℕ → ℕ → ℕ → Refusal
at_field number at field code place = record { fault = test.fault number place; at = at; field = field; code = code }

-- What a reader tells of the line at an offset of the file s, whatever state it is handed. What it tells from opening on is said in `Refused`.
pub data LineRefusal (s : List ℕ) (at : ℕ) : Refusal → Type 0 where
  -- 23, 24, 32, 25: record
  of_record : {n : ℕ} → RecordNumber n → LineRefusal s at (refusal n at)
  -- 28, 26, 27, 30, 31: record, field
  of_field : {n p k : ℕ} → 1 ≤ k → k < length (fields_at s at) → FieldNumber n p → LineRefusal s at (at_field n at k 0 p)
  -- 29 "code refused; its own number and place follow": record, field
  of_code : {n p k : ℕ} → 1 ≤ k → k < length (fields_at s at) → CodeNumber (get_or (fields_at s at) k []) n p → LineRefusal s at (at_field 29 at k n p)

-- What a writer's refusal tells: its number, and after 34 the reader's own.
pub data WriterNumber : ℕ → ℕ → Type 0 where
  -- 33 "no room"
  room : WriterNumber 33 0
  -- 34 "record the reader would refuse here, fields taken as held; its number follows"
  of_record : {n : ℕ} → RecordNumber n → WriterNumber 34 n
  of_field : {n p : ℕ} → FieldNumber n p → WriterNumber 34 n
  of_code : WriterNumber 34 29
