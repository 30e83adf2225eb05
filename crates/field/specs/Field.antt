-- A field of a record: whether it may be empty, what form it must have, and the tests that it is put to, in document 01's order: "field by field
-- 28, 26, 27, 30, 29, 31".
-- Assumes nothing.
use Rattle.std.specs.Prelude.{ℕ, Bool, true, false, cond, not, ◌&&◌, List, [], ◌∷◌, eqb, leb, length}
use Prim.Native.String.{String}
use Rattle.cells.specs.Text.{among}
use Rattle.cells.specs.Limits.{rp_most, serial_most}
use Rattle.cells.specs.Test.{Test, test, fault, first, Answer, took, refused}
use Rattle.cells.specs.declared.Fault.{Fault}
use Rattle.text.specs.Text.{text_upto}
use Rattle.number.specs.Number.{value, read_number}
use Rattle.number.specs.Amount.{hundred_thousandths, read_amount}
use Rattle.date.specs.Date.{read_date}
use Rattle.usage.specs.Usage.{read_usage}
use Rattle.supplement.specs.Supplement.{read_supplement}
use Rattle.supplement.specs.declared.Supplement.{Supplement}
use Rattle.counter.specs.Counter.{rises, carries, next_drug, next_supplement}
use Rattle.schedule.specs.Kept.{may_join}
use Rattle.field.specs.declared.Rule.{Rule}
use Rattle.field.specs.declared.Before.{Before}
use Rattle.field.specs.declared.Field.{Field}

-- What a field is judged by: what the records before leave, and which supplements may join those before them in their RP.
pub record Context : Type 0 where
  pub before : Before
  pub joins : Supplement → Bool

-- By its parts;
abbrev pub judged_by : Before → (Supplement → Bool) → Context
judged_by b joins = record { before = b; joins = joins }

-- and by what is kept of the RP's supplements.
abbrev pub context : Before → Context
context b = judged_by b (may_join b.month b.schedule)

-- A rule by its parts: whether the field may be empty, its form, and the bounds of its number or its byte maximum.
abbrev pub rule : ℕ → ℕ → ℕ → ℕ → Rule
rule need form lo hi = record { need = need; form = form; lo = lo; hi = hi }

-- A field may be free to be empty,
abbrev pub free : ℕ
free = 0

-- "* required",
abbrev pub required : ℕ
required = 1

-- or forbidden.
abbrev pub forbidden : ℕ
forbidden = 2

-- The forms of fields, which a rule has by number: those that have a byte maximum first, the numbers last.
abbrev pub text_form : ℕ
text_form = 0

abbrev pub drug_code_form : ℕ
drug_code_form = 1

abbrev pub date_form : ℕ
date_form = 2

abbrev pub site_form : ℕ
site_form = 3

abbrev pub usage_form : ℕ
usage_form = 4

abbrev pub supplement_form : ℕ
supplement_form = 5

abbrev pub amount_form : ℕ
amount_form = 6

abbrev pub number_form : ℕ
number_form = 7

abbrev pub code_kind_form : ℕ
code_kind_form = 8

abbrev pub new_rp_form : ℕ
new_rp_form = 9

abbrev pub own_rp_form : ℕ
own_rp_form = 10

abbrev pub drug_serial_form : ℕ
drug_serial_form = 11

abbrev pub supplement_serial_form : ℕ
supplement_serial_form = 12

-- The table's fields: a text of at most so many bytes,
abbrev pub text : ℕ → ℕ → Rule
text need most = rule need text_form 0 most

-- a drug code of at most so many bytes,
abbrev pub drug_code : ℕ → ℕ → Rule
drug_code need most = rule need drug_code_form 0 most

-- a date,
abbrev pub date : ℕ → Rule
date need = rule need date_form 0 0

-- a site,
abbrev pub site : ℕ → Rule
site need = rule need site_form 0 0

-- a usage code,
abbrev pub usage_code : ℕ → Rule
usage_code need = rule need usage_form 0 0

-- a supplementary code,
abbrev pub supplement_code : ℕ → Rule
supplement_code need = rule need supplement_form 0 0

-- an amount,
abbrev pub amount : ℕ → Rule
amount need = rule need amount_form 0 0

-- a number from lo to hi,
abbrev pub number : ℕ → ℕ → ℕ → Rule
number need lo hi = rule need number_form lo hi

-- "code kind 1 2 3 4 6 7",
abbrev pub code_kind : ℕ → Rule
code_kind need = rule need code_kind_form 1 7

-- "RP number (1 to 999)" of a new RP,
abbrev pub new_rp : ℕ → Rule
new_rp need = rule need new_rp_form 1 rp_most

-- and as the RP's other records carry it,
abbrev pub own_rp : ℕ → Rule
own_rp need = rule need own_rp_form 1 rp_most

-- "drug serial and supplement serial (1 to 99)".
abbrev pub drug_serial : ℕ → Rule
drug_serial need = rule need drug_serial_form 1 serial_most

-- That of a supplement.
abbrev pub supplement_serial : ℕ → Rule
supplement_serial need = rule need supplement_serial_form 1 serial_most

-- A field with no byte.
abbrev pub is_empty : List ℕ → Bool
is_empty [] = true
is_empty (b ∷ f) = false

-- "28 required field empty, or forbidden one filled."
unfoldable pub present : Rule → List ℕ → Bool
present r f = cond (is_empty f) (not (eqb r.need required)) (not (eqb r.need forbidden))

-- "26 field with a byte maximum: badly formed, end space, too long": texts and drug codes have one.
unfoldable pub fits : Rule → List ℕ → Bool
fits r f = cond (leb r.form drug_code_form) (text_upto r.hi f) true

-- A field is such a number, amount or date.
abbrev pub is_taken : {A : Type 0} → Answer A → Bool
is_taken (took a) = true
is_taken (refused n p) = false

-- What is wrong with it, as its reader says: number and place, 0 where it is taken.
abbrev pub fault_in : {A : Type 0} → Answer A → Fault
fault_in (took a) = fault 0 0
fault_in (refused n p) = fault n p

-- Each byte is in a set.
unfoldable pub each : String → List ℕ → Bool
each set [] = true
each set (b ∷ f) = among set b && each set f

-- "Drug code (digits, letters of either case, point, hyphen)."
abbrev pub is_drug_code : List ℕ → Bool
is_drug_code f = each "0123456789ABCDEFGHIJKLMNOPQRSTUVWXYZabcdefghijklmnopqrstuvwxyz.-" f

-- "Site, three digits or capitals."
abbrev pub is_site : List ℕ → Bool
is_site f = eqb (length f) 3 && each "0123456789ABCDEFGHIJKLMNOPQRSTUVWXYZ" f

-- The number that a field writes.
abbrev pub written_number : List ℕ → ℕ
written_number f = value 0 f

-- "27 number, date, amount, site or drug code": a field is of its form,
unfoldable pub valued : Rule → List ℕ → Bool
valued r f =
    cond (eqb r.form text_form) true
    (cond (eqb r.form drug_code_form) (is_drug_code f)
    (cond (eqb r.form date_form) (is_taken (read_date f))
    (cond (eqb r.form site_form) (is_site f)
    (cond (leb r.form supplement_form) true
    (cond (eqb r.form amount_form) (is_taken (read_amount f))
    (cond (eqb r.form code_kind_form) (is_taken (read_number r.lo r.hi f) && not (eqb (written_number f) 5))
    (is_taken (read_number r.lo r.hi f))))))))

-- what its reader says of it where it is not,
unfoldable pub value_said : Rule → List ℕ → Fault
value_said r f =
    cond (eqb r.form date_form) (fault_in (read_date f))
    (cond (eqb r.form amount_form) (fault_in (read_amount f)) (cond (leb number_form r.form) (fault_in (read_number r.lo r.hi f)) (fault 0 0)))

-- and 27 where that is nothing: a site or a drug code, which have no reader of their own, and the code kind 5.
unfoldable pub value_fault : Rule → List ℕ → Fault
value_fault r f = cond (eqb (value_said r f).number 0) (fault 27 0) (value_said r f)

-- "30 RP number or serial not as ordered": after what the records before leave.
unfoldable pub ordered : Before → Rule → ℕ → Bool
ordered b r n =
    cond (eqb r.form new_rp_form) (rises b.rp (record { 0 = n }))
    (cond (eqb r.form own_rp_form) (carries b.rp (record { 0 = n }))
    (cond (eqb r.form drug_serial_form) (next_drug b.drug (record { 0 = n }))
    (cond (eqb r.form supplement_serial_form) (next_supplement b.supplement (record { 0 = n })) true)))

-- "29 code refused; its own number and place follow."
unfoldable pub code_fault : Rule → List ℕ → Fault
code_fault r f =
    cond (eqb r.form usage_form) (fault_in (read_usage f)) (cond (eqb r.form supplement_form) (fault_in (read_supplement f)) (fault 0 0))

-- A supplement that is taken begins an allowed list with those before it in its RP.
abbrev pub joined : (Supplement → Bool) → Answer Supplement → Bool
joined joins (took x) = joins x
joined joins (refused n p) = true

-- "31 this supplement, with those before it in its RP, begins no allowed list."
unfoldable pub listed : (Supplement → Bool) → Rule → List ℕ → Bool
listed joins r f = cond (eqb r.form supplement_form) (joined joins (read_supplement f)) true

-- The tests of a filled field, each with its place in the field: of a code its character, 0 where there is none to name.
abbrev pub filled : Context → Rule → List ℕ → List Test
filled c r f =
    test 26 0 (fits r f) ∷
    test (value_fault r f).number (value_fault r f).place (valued r f) ∷
    test 30 0 (ordered c.before r (written_number f)) ∷
    test 29 (code_fault r f).place (eqb (code_fault r f).number 0) ∷
    test 31 0 (listed c.joins r f) ∷ []

-- "Field by field 28, 26, 27, 30, 29, 31."
unfoldable pub wrong : Context → Rule → List ℕ → Fault
wrong c r f = first (test 28 0 (present r f) ∷ cond (is_empty f) [] (filled c r f))

-- What is read of a field that is right: its number, or its amount in hundred-thousandths; 0 where it has none.
abbrev pub right : Rule → List ℕ → Field
right r f =
    record {
      fault = fault 0 0;
      code = 0;
      n = cond (leb number_form r.form) (written_number f) 0;
      amount = cond (eqb r.form amount_form) (hundred_thousandths f) 0;
    }

-- A refused field: what is wrong with it, and a code's own number.
abbrev pub refused_with : Fault → ℕ → Field
refused_with k own = record { fault = k; code = own; n = 0; amount = 0 }

-- The code's own number goes with 29.
abbrev pub own_number : ℕ → Rule → List ℕ → ℕ
own_number n r f = cond (eqb n 29) (code_fault r f).number 0

-- What a field is read as.
unfoldable pub read_field : Context → Rule → List ℕ → Field
read_field c r f = cond (eqb (wrong c r f).number 0) (right r f) (refused_with (wrong c r f) (own_number (wrong c r f).number r f))
