-- The rules of a record's fields, by its number.
use Prim.Native.Nat.{ℕ}
use mathlib.Core.Path.{ap, ap₂, ◌∙◌}
use mathlib.Core.Bool.{Bool}
use borrow.Author.Tests.{eq-eqb, ne_eqb}
use Rattle.row.specs.Table.{rules111, rules181, rules201, only_with, drug_code_need, name_need, rules_from, table_of}
use Rattle.row.specs.Code.Walk.{need_with, drug_need, name_need_of}
use Rattle.row.proofs.rules_of.Goals as goal

pub returns-then-n-eq51 : goal.returns-then-n-eq51
unfolding rules_from only_with drug_code_need name_need need_with drug_need name_need_of
returns-then-n-eq51 c = rw (eq-eqb _ _ c.if-n-eq51.true) c.table_51.ensures

pub returns-then-n-eq101 : goal.returns-then-n-eq101
unfolding rules_from only_with drug_code_need name_need need_with drug_need name_need_of
returns-then-n-eq101 c = rw (ne_eqb _ _ c.if-n-eq51.false, eq-eqb _ _ c.if-n-eq101.true) c.table_101.ensures

pub returns-then-n-eq111 : goal.returns-then-n-eq111
unfolding rules_from only_with drug_code_need name_need need_with drug_need name_need_of
returns-then-n-eq111 c =
    rw (ne_eqb _ _ c.if-n-eq51.false, ne_eqb _ _ c.if-n-eq101.false, eq-eqb _ _ c.if-n-eq111.true)
    (c.table_of_usage.ensures ∙ ap (λ (k : ℕ). table_of (rules111 (need_with 0x32 k))) c.mark.ensures)

pub returns-then-n-eq181 : goal.returns-then-n-eq181
unfolding rules_from only_with drug_code_need name_need need_with drug_need name_need_of
returns-then-n-eq181 c =
    rw (ne_eqb _ _ c.if-n-eq51.false, ne_eqb _ _ c.if-n-eq101.false, ne_eqb _ _ c.if-n-eq111.false, eq-eqb _ _ c.if-n-eq181.true)
    (c.table_of_supplement.ensures ∙ ap (λ (k : ℕ). table_of (rules181 (need_with 0x38 k) (need_with 0x39 k))) c.mark-then-n-eq181.ensures)

pub returns : goal.returns
unfolding rules_from only_with drug_code_need name_need need_with drug_need name_need_of
returns c =
    rw (ne_eqb _ _ c.if-n-eq51.false, ne_eqb _ _ c.if-n-eq101.false, ne_eqb _ _ c.if-n-eq111.false, ne_eqb _ _ c.if-n-eq181.false)
    (c.table_of_drug.ensures ∙
    ap₂ (λ (k : ℕ) (u : Bool). table_of (rules201 (drug_need k) (name_need_of k u))) c.mark-2.ensures c.is_unlisted.ensures)
