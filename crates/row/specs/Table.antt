-- The fields of each record: document 01's table, row by row.
-- Assumes nothing.
use Rattle.std.specs.Prelude.{ℕ, ◌-◌, Bool, cond, ◌&&◌, ◌||◌, List, [], ◌∷◌, ◌++◌, map, eqb, leb, length, get_or, replicate}
use Rattle.cells.specs.Text.{bytes}
use Rattle.cells.specs.Limits.{kept_most}
use Rattle.cells.specs.Same.{eqs}
use Rattle.line.specs.Fields.{nth}
use Rattle.field.specs.Field.{rule, free, required, forbidden, text, drug_code, date, site, usage_code, supplement_code, amount, number, code_kind, new_rp, own_rp, drug_serial, supplement_serial}
use Rattle.field.specs.declared.Rule.{Rule}
use Rattle.row.specs.declared.Rules.{Rules}

-- The one character of a field, as of a kind; 0 where it has not one.
unfoldable pub mark : List ℕ → ℕ
mark f = cond (eqb (length f) 1) (get_or f 0 0) 0

-- "Required with kind 2, else forbidden": with the kind of this character.
unfoldable pub only_with : ℕ → List ℕ → ℕ
only_with named kind = cond (eqb (mark kind) named) required forbidden

-- "Drug code: empty for code kind 1, free for 7, else required."
unfoldable pub drug_code_need : List ℕ → ℕ
drug_code_need kind = cond (eqb (mark kind) 0x31) forbidden (cond (eqb (mark kind) 0x37) free required)

-- "The name may be empty only for code kind 2, and not for code 777770000."
unfoldable pub name_need : List ℕ → List ℕ → ℕ
name_need kind code = cond (eqs code (bytes "777770000")) required (cond (eqb (mark kind) 0x32) free required)

-- 51: date*
abbrev pub rules51 : List Rule
rules51 = date required ∷ []

-- 101: RP*, form* 1 to 99, form name 80, quantity* 1 to 999
abbrev pub rules101 : List Rule
rules101 = new_rp required ∷ number required 1 99 ∷ text free 80 ∷ number required 1 999 ∷ []

-- 111: RP*, kind* 1 or 2, code, name* 80, times per day 1 to 99 or empty
abbrev pub rules111 : ℕ → List Rule
rules111 code = own_rp required ∷ number required 1 2 ∷ usage_code code ∷ text required 80 ∷ number free 1 99 ∷ []

-- 181: RP*, serial*, kind 1 to 99 or empty, text* 100, supplement, site
abbrev pub rules181 : ℕ → ℕ → List Rule
rules181 code place =
    own_rp required ∷ supplement_serial required ∷ number free 1 99 ∷ text required 100 ∷ supplement_code code ∷ site place ∷ []

-- 201: RP*, serial*, kind 1 to 3 or empty, code kind* 1 2 3 4 6 7, drug code 13, name 80, amount*, flag* 1 or 2, unit* 12
abbrev pub rules201 : ℕ → ℕ → List Rule
rules201 code name =
    own_rp required ∷
    drug_serial required ∷
    number free 1 3 ∷
    code_kind required ∷
    drug_code code 13 ∷
    text name 80 ∷
    amount required ∷
    number required 1 2 ∷
    text required 12 ∷ []

-- The records of the table.
unfoldable pub typed : ℕ → Bool
typed n = eqb n 51 || (eqb n 101 || (eqb n 111 || (eqb n 181 || eqb n 201)))

-- The field, counted from 1, that holds the kind by which other fields go, and the one that holds the drug code; the first where there is none.
abbrev pub kind_field : ℕ → ℕ
kind_field n = cond (eqb n 111) 2 (cond (eqb n 181) 3 (cond (eqb n 201) 4 1))

-- The drug code's.
abbrev pub code_field : ℕ → ℕ
code_field n = cond (eqb n 201) 5 1

-- The rules of the table's records, by the kind and the drug code. "Code in 111: required with kind 2, else forbidden; supplement in 181: the
-- same with kind 8; site: the same with kind 9."
unfoldable pub rules_from : ℕ → List ℕ → List ℕ → List Rule
rules_from n kind code =
    cond (eqb n 51) rules51
    (cond (eqb n 101) rules101
    (cond (eqb n 111) (rules111 (only_with 0x32 kind))
    (cond (eqb n 181) (rules181 (only_with 0x38 kind) (only_with 0x39 kind)) (rules201 (drug_code_need kind) (name_need kind code)))))

-- A row has room for as many fields.
abbrev pub wide : ℕ
wide = 12

-- A rule of no field.
abbrev pub no_rule : Rule
no_rule = rule 0 0 0 0

-- Rules in a row's cells, as many as there are.
abbrev pub table_of : List Rule → Rules
table_of rs = record { count = length rs; each = rs ++ replicate (wide - length rs) no_rule }

-- The rules of a table's record, by its fields.
abbrev pub rules_of : ℕ → List (List ℕ) → List Rule
rules_of n fs = rules_from n (nth (kind_field n) fs) (nth (code_field n) fs)

-- "Those with no line here are kept as one or more fields of text, each 0 to 200 bytes."
abbrev pub kept_rule : Rule
kept_rule = text free kept_most

-- The rules of a record's fields, as many as it has.
unfoldable pub rules : ℕ → List (List ℕ) → List Rule
rules n fs = cond (typed n) (rules_of n fs) (map (λ f. kept_rule) fs)

-- "25 number of fields": as many as the record has, and one or more of those that are kept.
unfoldable pub counted : ℕ → List (List ℕ) → Bool
counted n fs = leb 1 (length fs) && eqb (length fs) (length (rules n fs))
