-- The records: a text by its place in the file, which part of a record is in which field, and what a record leaves for those after it.
-- Assumes nothing.
use Rattle.std.specs.Prelude.{ℕ, cond, List, [], ◌∷◌, ◌++◌, eqb, None, Option, Some}
use Rattle.cells.specs.Test.{Answer, took, refused}
use Rattle.text.specs.Lent.{text_or}
use Rattle.date.specs.Date.{read_date, date}
use Rattle.date.specs.declared.Date.{Date}
use Rattle.usage.specs.Usage.{read_usage}
use Rattle.usage.specs.declared.Instruction.{Instruction}
use Rattle.supplement.specs.Supplement.{read_supplement}
use Rattle.supplement.specs.declared.Supplement.{Supplement}
use Rattle.schedule.specs.Kept.{kept, keep_of}
use Rattle.schedule.specs.declared.Schedule.{Schedule}
use Rattle.counter.specs.declared.RpNumber.{RpNumber}
use Rattle.counter.specs.declared.DrugSerial.{DrugSerial}
use Rattle.counter.specs.declared.SupplementSerial.{SupplementSerial}
use Rattle.field.specs.declared.Before.{Before}
use Rattle.record.specs.declared.Sofar.{Sofar}
use Rattle.record.specs.declared.Place.{Place}
use Rattle.record.specs.declared.Record.{Record}
use Rattle.record.specs.declared.Record.TheVariants.{Issue, Rp, Usage, Supplement as Supply, Drug, Kept}

-- The bytes at a place of the file; nothing where the file has no such place.
abbrev pub text_at : List ℕ → Place → List ℕ
text_at s p = text_or s [] p.from p.to

-- The number of a record.
abbrev pub number_of : Record → ℕ
number_of (Issue x) = 51
number_of (Rp x) = 101
number_of (Usage x) = 111
number_of (Supply x) = 181
number_of (Drug x) = 201
number_of (Kept x) = x.number

-- ---- which part of a record is in which field
-- A field, as its record has it: a number; one that is empty where it is 0 ("1 to 99 or empty"); an amount; a text by its place; a date; a code, or none.
pub data Column : Type 0 where
  number : ℕ → Column
  optional : ℕ → Column
  amount : ℕ → Column
  text : Place → Column
  day : Date → Column
  usage : Option Instruction → Column
  supplement : Option Supplement → Column

-- The fields of a record, in the order of document 01's table. Those of a kept record are one text, with the commas between them.
abbrev pub columns : Record → List Column
columns (Issue x) = day x.date ∷ []
columns (Rp x) = number x.rp.0 ∷ number x.form ∷ text x.name ∷ number x.quantity ∷ []
columns (Usage x) = number x.rp.0 ∷ number x.kind ∷ usage x.code ∷ text x.name ∷ optional x.times ∷ []
columns (Supply x) =
    number x.rp.0 ∷ number x.serial.0 ∷ optional x.kind ∷ text x.text ∷ supplement x.code ∷ text x.site ∷ []
columns (Drug x) =
    number x.rp.0 ∷
    number x.serial.0 ∷
    optional x.kind ∷
    number x.coding ∷
    text x.code ∷
    text x.name ∷
    amount x.amount ∷
    number x.flag ∷
    text x.unit ∷ []
columns (Kept x) = text x.fields ∷ []

-- ---- and back: a record from its fields
-- The date that a field is read as.
abbrev pub date_in : Answer Date → Date
date_in (took t) = t
date_in (refused n p) = date 0 0 0 0

-- The usage code that a field is read as, where it holds one.
abbrev pub usage_in : Answer Instruction → Option Instruction
usage_in (took i) = Some i
usage_in (refused n p) = None

-- The supplement that a field is read as, where it holds one.
abbrev pub supplement_in : Answer Supplement → Option Supplement
supplement_in (took x) = Some x
supplement_in (refused n p) = None

-- Where the fields of a line are taken from, each by its number, counted from 1: the number that it writes, its amount, its place, its bytes.
pub record Source : Type 0 where
  pub number : ℕ → ℕ
  pub amount : ℕ → ℕ
  pub place : ℕ → Place
  pub bytes : ℕ → List ℕ

-- The record of a number, from its fields; those of a kept record stand at a place.
unfoldable pub record_from : ℕ → Source → Place → Record
record_from n x fields =
    cond (eqb n 51) (Issue (record { date = date_in (read_date (x.bytes 1)) }))
    (cond (eqb n 101) (Rp (record { rp = record { 0 = x.number 1 }; form = x.number 2; name = x.place 3; quantity = x.number 4 }))
    (cond (eqb n 111)
    (Usage
    (record {
      rp = record { 0 = x.number 1 };
      kind = x.number 2;
      code = usage_in (read_usage (x.bytes 3));
      name = x.place 4;
      times = x.number 5;
    }))
    (cond (eqb n 181)
    (Supply
    (record {
      rp = record { 0 = x.number 1 };
      serial = record { 0 = x.number 2 };
      kind = x.number 3;
      text = x.place 4;
      code = supplement_in (read_supplement (x.bytes 5));
      site = x.place 6;
    }))
    (cond (eqb n 201)
    (Drug
    (record {
      rp = record { 0 = x.number 1 };
      serial = record { 0 = x.number 2 };
      kind = x.number 3;
      coding = x.number 4;
      code = x.place 5;
      name = x.place 6;
      amount = x.amount 7;
      flag = x.number 8;
      unit = x.place 9;
    }))
    (Kept (record { number = n; fields = fields }))))))

-- ---- what a record leaves
-- Before the first record.
unfoldable pub start : Sofar
start =
    record { last = 0; before = record { month = 0; rp = record { 0 = 0 }; drug = record { 0 = 0 }; supplement = record { 0 = 0 }; schedule = kept [] } }

-- What was left, with another month,
abbrev pub with_month : ℕ → Before → Before
with_month m b = record { month = m; rp = b.rp; drug = b.drug; supplement = b.supplement; schedule = b.schedule }

-- another RP number,
abbrev pub with_rp : RpNumber → Before → Before
with_rp n b = record { month = b.month; rp = n; drug = b.drug; supplement = b.supplement; schedule = b.schedule }

-- another drug serial,
abbrev pub with_drug : DrugSerial → Before → Before
with_drug n b = record { month = b.month; rp = b.rp; drug = n; supplement = b.supplement; schedule = b.schedule }

-- another supplement serial,
abbrev pub with_serial : SupplementSerial → Before → Before
with_serial n b = record { month = b.month; rp = b.rp; drug = b.drug; supplement = n; schedule = b.schedule }

-- or other supplements of the RP.
abbrev pub with_schedule : Schedule → Before → Before
with_schedule t b = record { month = b.month; rp = b.rp; drug = b.drug; supplement = b.supplement; schedule = t }

-- What is kept of an RP's supplements with one more, or with none.
abbrev pub with_code : Schedule → Option Supplement → Schedule
with_code t (Some x) = keep_of x
with_code t None = t

-- The month of record 51; no supplement yet.
abbrev pub issued : ℕ → Before → Before
issued month b = with_month month (with_schedule (kept []) b)

-- The RP's number; "both serials run 1, 2, 3 in each RP", and so do its supplements begin anew.
abbrev pub begun : RpNumber → Before → Before
begun rp b = with_rp rp (with_drug (record { 0 = 0 }) (with_serial (record { 0 = 0 }) (with_schedule (kept []) b)))

-- The supplement's serial, and what is kept of the RP's supplements.
abbrev pub supplied : SupplementSerial → Option Supplement → Before → Before
supplied serial code b = with_serial serial (with_schedule (with_code b.schedule code) b)

-- What a record leaves for the fields of those after it,
abbrev pub leaves : Before → Record → Before
leaves b (Issue x) = issued x.date.month b
leaves b (Rp x) = begun x.rp b
leaves b (Usage x) = b
leaves b (Supply x) = supplied x.serial x.code b
leaves b (Drug x) = with_drug x.serial b
leaves b (Kept x) = b

-- and with it for the order its number.
abbrev pub after : Before → Record → Sofar
after b r = record { last = number_of r; before = leaves b r }

-- The supplements of an RP with the one of a record more, where it has one.
abbrev pub with_supplement : List Supplement → Option Supplement → List Supplement
with_supplement xs (Some x) = xs ++ (x ∷ [])
with_supplement xs None = xs

-- The supplements of the RP, in their order, with those of one record more.
abbrev pub supplements : List Supplement → Record → List Supplement
supplements xs (Issue x) = []
supplements xs (Rp x) = []
supplements xs (Usage x) = xs
supplements xs (Supply x) = with_supplement xs x.code
supplements xs (Drug x) = xs
supplements xs (Kept x) = xs
