-- A field read step by step: its form, its code, what is made of them.
-- Assumes nothing.
use Rattle.std.specs.Prelude.{ℕ, Bool, cond, List, eqb}
use Rattle.cells.specs.Test.{fault, first, Answer, took, refused}
use Rattle.cells.specs.declared.Fault.{Fault}
use Rattle.date.specs.declared.Date.{Date}
use Rattle.usage.specs.Usage.{read_usage}
use Rattle.usage.specs.declared.Instruction.{Instruction}
use Rattle.supplement.specs.Supplement.{read_supplement}
use Rattle.supplement.specs.declared.Supplement.{Supplement}
use Rattle.field.specs.Field.{Context, filled, right, refused_with, own_number}
use Rattle.field.specs.declared.Rule.{Rule}
use Rattle.field.specs.declared.Field.{Field}

-- A field that has no number and no amount, with nothing wrong.
abbrev pub blank : Field
blank = refused_with (fault 0 0) 0

-- A usage code.
abbrev pub usage_field : Answer Instruction → Field
usage_field (took i) = blank
usage_field (refused n p) = refused_with (fault 29 p) n

-- A supplement.
abbrev pub supplement_field : (Supplement → Bool) → Answer Supplement → Field
supplement_field joins (took x) = cond (joins x) blank (refused_with (fault 31 0) 0)
supplement_field joins (refused n p) = refused_with (fault 29 p) n

-- A field that is a code.
unfoldable pub code_field : (Supplement → Bool) → Rule → List ℕ → Field
code_field joins r f = cond (eqb r.form 4) (usage_field (read_usage f)) (supplement_field joins (read_supplement f))

-- A field that has no reader of its own, by whether it is of its form.
abbrev pub formed_if : Bool → Field
formed_if b = cond b blank (refused_with (fault 27 0) 0)

-- A date.
abbrev pub date_field : Answer Date → Field
date_field (took t) = blank
date_field (refused n p) = refused_with (fault n p) 0

-- An amount.
abbrev pub amount_field : Answer ℕ → Field
amount_field (took n) = record { fault = fault 0 0; code = 0; n = 0; amount = n }
amount_field (refused n p) = refused_with (fault n p) 0

-- What a field is read as by what is wrong with it.
abbrev pub read_by : Rule → List ℕ → Fault → Field
read_by r f k = cond (eqb k.number 0) (right r f) (refused_with k (own_number k.number r f))

-- A field that is filled and may be.
unfoldable pub read_filled : Context → Rule → List ℕ → Field
read_filled c r f = read_by r f (first (filled c r f))
