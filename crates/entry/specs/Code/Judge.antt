-- A record's parts judged one by one.
-- Assumes nothing.
use Rattle.std.specs.Prelude.{ℕ, zero, suc, ◌+◌, cond, not, ◌&&◌, List, [], ◌∷◌, eqb, leb, ltb, length, get_or, drop}
use Rattle.text.specs.Lent.{no_field, text_or}
use Rattle.line.specs.Fields.{split}
use Rattle.order.specs.Next.{follow}
use Rattle.field.specs.Field.{Context, code_kind_form, ordered, read_field}
use Rattle.field.specs.declared.Before.{Before}
use Rattle.field.specs.declared.Rule.{Rule}
use Rattle.row.specs.Table.{typed, kind_field, code_field, rules_from, kept_rule, no_rule, table_of}
use Rattle.row.specs.declared.Rules.{Rules}
use Rattle.laid.specs.Laid.{Laid, laid, text_bytes, part_at}
use Rattle.record.specs.declared.Record.{Record}
use Rattle.held.specs.Held.{lent_held}
use Rattle.entry.specs.Entry.{Parts}

-- A number that is none of the table's.
unfoldable pub kept_number : ℕ → ℕ
kept_number n = cond (typed n) 0 n

-- A record's number, whatever bytes its texts lie in.
abbrev pub number_for : Record → ℕ
number_for r = (lent_held [] r).number

-- The parts in their arrays, as a line is laid from them.
abbrev pub laid_in : Parts → Laid
laid_in p = laid p.kinds p.numbers p.from p.to p.own

-- k parts that have i before them.
unfoldable pub parts_from : List ℕ → Laid → ℕ → ℕ → List (List ℕ)
parts_from lent p zero i = []
parts_from lent p (suc k) i = part_at lent p i ∷ parts_from lent p k (i + 1)

-- The character of a kind, by which other fields go: 0 for a part that is not one digit.
unfoldable pub kind_mark : ℕ → ℕ → ℕ
kind_mark kind number = cond (eqb kind 0 && ltb number 10) (48 + number) 0

-- The rules of a record's fields, by its kind's character and the drug code.
abbrev pub table_by : ℕ → ℕ → List ℕ → Rules
table_by n mark code = table_of (rules_from n (mark ∷ []) code)

-- The rules of a typed record's parts.
abbrev pub table_in : ℕ → List ℕ → Laid → Rules
table_in n lent p =
    table_by n (kind_mark (get_or p.kinds (kind_field n) 0) (get_or p.numbers (kind_field n) 0))
    (text_or lent no_field (get_or p.from (code_field n) 0) (get_or p.to (code_field n) 0))

-- What is wrong with a number, held as itself: 27 or 30.
unfoldable pub number_wrong : Before → Rule → ℕ → ℕ
number_wrong b r n = cond ((leb r.lo n && leb n r.hi) && not (eqb r.form code_kind_form && eqb n 5)) (cond (ordered b r n) 0 30) 27

-- What is wrong with a part, by its rule.
unfoldable pub part_wrong : Context → Rule → List ℕ → List ℕ → ℕ → ℕ → ℕ → ℕ → ℕ
part_wrong c r lent own kind number from to = cond (eqb kind 0) (number_wrong c.before r number) (read_field c r (text_bytes lent own kind from to)).fault.number

-- What is wrong with the field with i before it.
abbrev pub wrong_at : Context → List ℕ → List Rule → Laid → ℕ → ℕ
wrong_at c lent rs p i =
    part_wrong c (get_or rs i no_rule) lent p.own (get_or p.kinds (i + 1) 0) (get_or p.numbers (i + 1) 0) (get_or p.from (i + 1) 0)
    (get_or p.to (i + 1) 0)

-- The first wrong one of k fields that have i before them.
unfoldable pub wrong_from : Context → List ℕ → List Rule → Laid → ℕ → ℕ → ℕ
wrong_from c lent rs p zero i = 0
wrong_from c lent rs p (suc k) i = cond (eqb (wrong_at c lent rs p i) 0) (wrong_from c lent rs p k (i + 1)) (wrong_at c lent rs p i)

-- What is wrong with the fields of a typed record.
unfoldable pub wrong_typed : Context → List ℕ → ℕ → Laid → ℕ
wrong_typed c lent n p = wrong_from c lent (table_in n lent p).each p (table_in n lent p).count 0

-- The bytes up to the first comma,
unfoldable pub upto : List ℕ → List ℕ
upto [] = []
upto (b ∷ s) = cond (eqb b 0x2c) [] (b ∷ upto s)

-- and its offset.
abbrev pub comma_from : List ℕ → ℕ → ℕ
comma_from s from = from + length (upto (drop from s))

-- The first wrong one of kept texts.
unfoldable pub texts_wrong : Context → List (List ℕ) → ℕ
texts_wrong c [] = 0
texts_wrong c (f ∷ fs) = cond (eqb (read_field c kept_rule f).fault.number 0) (texts_wrong c fs) (read_field c kept_rule f).fault.number

-- What is wrong with a record, by its number and its parts.
unfoldable pub wrong_in : ℕ → Context → List ℕ → ℕ → Laid → ℕ
wrong_in last c lent n p =
    cond (eqb (follow last n) 0)
    (cond (typed n) (wrong_typed c lent n p) (texts_wrong c (split (text_or lent no_field (get_or p.from 1 0) (get_or p.to 1 0)))))
    (follow last n)
