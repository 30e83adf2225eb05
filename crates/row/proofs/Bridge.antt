-- The rows walked along the file are the rows of document 01: of a typed record by its rules, of one that is kept, and of one with too few or
-- too many fields.
-- Assumes nothing.
use Prim.Native.Nat.{ℕ, suc, ◌+◌, ◌≤◌, ◌<◌}
use mathlib.Core.Path.{◌≡◌, refl, sym, ap, ◌∙◌}
use mathlib.Core.Bool.{true, false}
use mathlib.Core.List.{List, [], ◌∷◌, ◌++◌, map}
use native.Mathlib.Nat.{zero-add, add-zero}
use native.Mathlib.Omega.{arith}
use borrow.Author.Tests.{eq-eqb, ne_eqb, le-leb}
use lib.Dec.{eqb, leb}
use lib.ListN.{length, get_or, length-append, length-map, get_or-append}
use Rattle.cells.proofs.Split.{split}
use Rattle.line.specs.Fields.{join}
use Rattle.field.specs.Field.{Context, read_field}
use Rattle.field.specs.declared.Rule.{Rule}
use Rattle.row.specs.Table.{typed, kept_rule, rules, rules_from, rules_of, counted, wide, no_rule, table_of}
use Rattle.row.specs.Row.{miscounted, field_by_field, fine, read_row}
use Rattle.row.specs.Code.Walk.{width_of, row_from, kept_from}

-- Where fields end, of which the first begins at `at` and a comma or the CR stands after each: after their line and its CR.
unfoldable end : ℕ → List (List ℕ) → ℕ
end at [] = at
end at (f ∷ fs) = end (at + length f + 1) fs

end_join : (at : ℕ) (f : List ℕ) (fs : List (List ℕ)) → end at (f ∷ fs) ≡ at + length (join (f ∷ fs)) + 1
unfolding end join
end_join at f [] = refl
end_join at f (g ∷ fs) =
    let k : end (at + length f + 1) (g ∷ fs) ≡ at + length f + 1 + length (join (g ∷ fs)) + 1 = end_join (at + length f + 1) g fs in
    let l : length (f ++ 0x2c ∷ join (g ∷ fs)) ≡ length f + suc (length (join (g ∷ fs))) = length-append f (0x2c ∷ join (g ∷ fs)) in
    k ∙ omega arith

end_line : (at : ℕ) (fs : List (List ℕ)) → 1 ≤ length fs → end at fs ≡ at + length (join fs) + 1
end_line at [] h = absurd (omega arith)
end_line at (f ∷ fs) h = end_join at f fs

module _ (c : Context) where
  -- the fields of a typed record, after i others, whose rules stand in `all` from there on
  typed_from : (rs : List Rule) (fs : List (List ℕ)) (i at : ℕ) (all : List Rule) → length fs ≡ length rs →
      ((j : ℕ) → j < length rs → get_or all (i + j) no_rule ≡ get_or rs j no_rule) →
      row_from c i at all fs ≡ field_by_field c (i + 1) rs fs (fine (end at fs))
  unfolding row_from field_by_field end
  typed_from [] [] i at all h a = refl
  typed_from [] (f ∷ fs) i at all h a = absurd (omega arith)
  typed_from (r ∷ rs) [] i at all h a = absurd (omega arith)
  typed_from (r ∷ rs) (f ∷ fs) i at all h a =
      let g : get_or all i no_rule ≡ r = rw add-zero at (a 0 (omega arith)) in
      split (eqb (read_field c r f).fault.number 0)
      (λ e.
      simp (g, e)
      (typed_from rs fs (i + 1) (at + length f + 1) all (omega arith)
      (λ j l. let z : i + 1 + j ≡ i + suc j = omega arith in ap (λ (k : ℕ). get_or all k no_rule) z ∙ a (suc j) (omega arith))))
      (λ e. simp (g, e))

  -- the fields of a kept record
  kept_from_lem : (fs : List (List ℕ)) (i at : ℕ) →
      kept_from c i at fs ≡ field_by_field c i (map (λ f. kept_rule) fs) fs (fine (end at fs))
  unfolding kept_from field_by_field end
  kept_from_lem [] i at = refl
  kept_from_lem (f ∷ fs) i at =
      split (eqb (read_field c (kept_rule) f).fault.number 0)
      (λ e. simp e (kept_from_lem fs (i + 1) (at + length f + 1)))
      (λ e. simp e)

  module _ (n at : ℕ) (fs : List (List ℕ)) where
    row_counted : 1 ≤ length fs → length fs ≡ length (rules n fs) →
        read_row c n at fs ≡ field_by_field c 1 (rules n fs) fs (fine (at + length (join fs) + 1))
    unfolding read_row counted
    row_counted h k = rw (le-leb 1 (length fs) h, eq-eqb (length fs) (length (rules n fs)) k)

    pub typed_rules : typed n ≡ true → rules n fs ≡ rules_of n fs
    unfolding rules
    typed_rules h = rw h

    -- as many as the record has
    pub table_width : length (rules_of n fs) ≡ width_of n
    unfolding rules_from width_of
    table_width =
        split (eqb n 51) (λ e. simp e)
        (λ a. split (eqb n 101) (λ e. simp (a, e)) (λ b. split (eqb n 111) (λ e. simp (a, b, e)) (λ d. split (eqb n 181) (λ e. simp (a, b, d, e)) (λ e. simp (a, b, d, e)))))

    -- a table has one to twelve fields
    pub table_size : (1 ≤ length (rules_of n fs)) × (length (rules_of n fs) ≤ wide)
    unfolding rules_from
    table_size =
        split (eqb n 51) (λ e. simp e (omega arith, omega arith))
        (λ a.
        split (eqb n 101) (λ e. simp (a, e) (omega arith, omega arith))
        (λ b.
        split (eqb n 111) (λ e. simp (a, b, e) (omega arith, omega arith))
        (λ d. split (eqb n 181) (λ e. simp (a, b, d, e) (omega arith, omega arith)) (λ e. simp (a, b, d, e) (omega arith, omega arith)))))

    -- A typed record with as many fields as its table,
    pub typed_row : typed n ≡ true → length fs ≡ length (rules_of n fs) →
        row_from c 0 at (table_of (rules_of n fs)).each fs ≡ read_row c n at fs
    typed_row h k =
        let l : 1 ≤ length fs = omega (arith, table_size) in
        let y : rules n fs ≡ rules_of n fs = typed_rules h in
        typed_from (rules_of n fs) fs 0 at (table_of (rules_of n fs)).each k (λ j b. rw zero-add (get_or-append (rules_of n fs) _ no_rule j b))
        ∙ ap (λ (x : ℕ). field_by_field c 1 (rules_of n fs) fs (fine x)) (end_line at fs l)
        ∙ sym (row_counted l (k ∙ ap length (sym y)) ∙ rw y)

    -- one that is kept,
    pub kept_row : typed n ≡ false → 1 ≤ length fs → kept_from c 1 at fs ≡ read_row c n at fs
    unfolding rules
    kept_row h l =
        let y : rules n fs ≡ map (λ f. kept_rule) fs = rw h in
        kept_from_lem fs 1 at
        ∙ ap (λ (x : ℕ). field_by_field c 1 (map (λ f. kept_rule) fs) fs (fine x)) (end_line at fs l)
        ∙ sym (row_counted l (sym (ap length y ∙ length-map fs (λ f. kept_rule))) ∙ rw y)

    -- one with another number of fields,
    pub miscounted_row : typed n ≡ true → (length fs ≡ length (rules_of n fs) → ⊥) → read_row c n at fs ≡ miscounted
    unfolding read_row counted
    miscounted_row h k =
        let y : rules n fs ≡ rules_of n fs = typed_rules h in
        split (leb 1 (length fs)) (λ e. simp (e, y, ne_eqb (length fs) (length (rules_of n fs)) k)) (λ e. simp e)

  -- and one with none.
  pub no_fields : (n at : ℕ) → read_row c n at [] ≡ miscounted
  unfolding read_row counted
  no_fields n at = refl
