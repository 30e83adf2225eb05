-- The writer's answer: the characters where they read back as the record, and else 35, since no other characters can.
-- Assumes nothing.
use mathlib.Core.Path.{◌≡◌, refl, ◌∙◌, sym, ap}
use mathlib.Core.Bool.{true, cond}
use lib.ListN.{get_or}
use Rattle.cells.specs.Test.{took, fault}
use Rattle.cells.specs.Same.{eqs}
use Rattle.cells.proofs.Split.{split}
use Rattle.cells.proofs.Alike.{and_left, and_right}
use Rattle.cells.proofs.Same.{eqs_eq, eqs_self}
use Rattle.cells.proofs.Writing.{writes, refuses}
use Rattle.supplement.specs.Supplement.{read_supplement, said}
use Rattle.supplement.proofs.Laws.{one_reading}
use Rattle.std.specs.Prelude.{Err, Ok, Result}
use Rattle.cells.specs.declared.Fault.{Fault}
use Rattle.supplement.specs.declared.Supplement.{Supplement}
use Rattle.supplement_writer.specs.Writes.{WritesSupplement}
use Rattle.supplement_writer.specs.Print.{raw, of_head, of_week, of_days, same, agrees}
use Rattle.supplement_writer.proofs.Laws.{back}

-- two records that compare as equal are equal
same_record : (a b : Supplement) → same a b ≡ true → a ≡ b
same_record a b h =
    let f = eqs_eq (of_head a) (of_head b) (and_left (eqs (of_head a) (of_head b)) _ h) in
    let k = and_right (eqs (of_head a) (of_head b)) _ h in
    let w = eqs_eq (of_week a.week) (of_week b.week) (and_left (eqs (of_week a.week) (of_week b.week)) _ k) in
    let d = eqs_eq (of_days a.days) (of_days b.days) (and_right (eqs (of_week a.week) (of_week b.week)) _ k) in
    λ i. record {
      letter = get_or (f i) 0 0;
      on = get_or (f i) 1 0;
      off = get_or (f i) 2 0;
      week = record {
        sunday = get_or (w i) 0 0;
        monday = get_or (w i) 1 0;
        tuesday = get_or (w i) 2 0;
        wednesday = get_or (w i) 3 0;
        thursday = get_or (w i) 4 0;
        friday = get_or (w i) 5 0;
        saturday = get_or (w i) 6 0;
      };
      month = get_or (f i) 3 0;
      days = record { d1 = get_or (d i) 0 0; d2 = get_or (d i) 1 0; d3 = get_or (d i) 2 0; d4 = get_or (d i) 3 0; d5 = get_or (d i) 4 0; d6 = get_or (d i) 5 0 };
      period = get_or (f i) 4 0;
      count = get_or (f i) 5 0;
      order = get_or (f i) 6 0;
      figures = get_or (f i) 7 0;
      places = get_or (f i) 8 0;
    }

same_self : (x : Supplement) → same x x ≡ true
same_self x = simp (eqs_self (of_head x), eqs_self (of_week x.week), eqs_self (of_days x.days))

module _ (x : Supplement) (u : Result Supplement Fault) (r : said u ≡ read_supplement (raw x)) where
  -- the record was read back
  pub written : (y : Supplement) → u ≡ Ok y → y ≡ x → WritesSupplement x (Ok (raw x))
  written y h e = writes Supplement read_supplement raw back x (sym r ∙ ap said h ∙ ap took e)

  -- another was, or none
  pub unwritten : (u ≡ Ok x → ⊥) → WritesSupplement x (Err (fault 35 0))
  unwritten n = refuses Supplement read_supplement raw back x (λ h. n (one_reading u (Ok x) (r ∙ h)))

-- what is printed, where it reads as the record number by number
pub answered : (x : Supplement) (u : Result Supplement Fault) → said u ≡ read_supplement (raw x) → WritesSupplement x (cond (agrees (said u) x) (Ok (raw x)) (Err (fault 35 0)))
answered x (Ok y) r =
    split (same y x) (λ e. simp e (written x (Ok y) r y refl (same_record y x e)))
    (λ e. simp e (unwritten x (Ok y) r (λ h. let k : y ≡ x = cc in let t : same y x ≡ true = ap (λ (z : Supplement). same z x) k ∙ same_self x in cc (t, e))))
answered x (Err f) r = unwritten x (Err f) r (λ h. cc)
