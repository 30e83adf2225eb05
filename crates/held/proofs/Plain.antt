-- The parts of a line that is taken have no comma, and are bytes of a line.
-- Assumes nothing.
use Prim.Native.Nat.{ℕ, suc, ◌+◌, ◌<◌, ◌≤◌}
use mathlib.Core.Path.{◌≡◌, refl, ap}
use mathlib.Core.Bool.{true, false}
use mathlib.Core.List.{List, [], ◌∷◌, ◌++◌}
use native.Mathlib.Omega.{arith}
use borrow.Author.Tests.{eqb-false, eq-eqb, ne_eqb, leb-true, leb-false}
use lib.Dec.{leb, eqb}
use lib.ListN.{length, get_or}
use Rattle.cells.specs.Test.{Answer, took, refused}
use Rattle.cells.proofs.Split.{split as cases}
use Rattle.cells.proofs.Alike.{and_left, and_right}
use Rattle.line.specs.Frame.{plain, plain_line}
use Rattle.line.specs.Fields.{no_commas, join}
use Rattle.text.specs.Text.{text_upto}
use Rattle.number.specs.Number.{shortest, read_number}
use Rattle.usage.specs.Usage.{read_usage}
use Rattle.usage.specs.declared.Instruction.{Instruction}
use Rattle.supplement.specs.Supplement.{read_supplement}
use Rattle.supplement.specs.declared.Supplement.{Supplement}
use Rattle.order.specs.Next.{follow}
use Rattle.field.specs.Field.{Context, fits, valued, fault_in, code_fault, is_taken, wrong}
use Rattle.field.specs.declared.Rule.{Rule}
use Rattle.record_line.specs.Line.{number_in, read_parts}
use Rattle.record.specs.declared.Record.{Record}
use Rattle.field.proofs.Laws.{passes}
use Rattle.held.proofs.Clean.{Fit, fit_none, text_fit, day_fit, site_fit, amount_fit, number_fit}
use Rattle.held.proofs.Codes.{usage_fit, supplement_fit}
use Rattle.held.proofs.Field.{refused_usage, refused_supplement}
use Rattle.held.proofs.Row.{Fine}
use Rattle.held.proofs.Taken.{taken, not_0}
use Rattle.std.specs.Prelude.{Ok}

-- ---- a field by its form
usage_taken : (f : List ℕ) (m : Answer Instruction) → read_usage f ≡ m → (fault_in m).number ≡ 0 → Fit f
usage_taken f (took i) e h = usage_fit f i e
usage_taken f (refused n p) e h = absurd (refused_usage f n p e h)

supplement_taken : (f : List ℕ) (m : Answer Supplement) → read_supplement f ≡ m → (fault_in m).number ≡ 0 → Fit f
supplement_taken f (took x) e h = supplement_fit f x e
supplement_taken f (refused n p) e h = absurd (refused_supplement f n p e h)

module _ (r : Rule) (f : List ℕ) (t : fits r f ≡ true) (v : valued r f ≡ true) (k : (code_fault r f).number ≡ 0) where
  -- texts and drug codes
  text_form : leb r.form 1 ≡ true → Fit f
  unfolding fits text_upto
  text_form e = let h : text_upto r.hi f ≡ true = simp e at t in text_fit f (and_right (leb (length f) r.hi) _ h)

  -- codes
  code_form : 4 ≤ r.form → r.form ≤ 5 → Fit f
  unfolding code_fault
  code_form l m =
      cases (eqb r.form 4) (λ e. usage_taken f (read_usage f) refl (simp e at k))
      (λ e. let g : eqb r.form 5 ≡ true = eq-eqb r.form 5 (omega (arith, eqb-false r.form 4 e)) in
      supplement_taken f (read_supplement f) refl (simp (e, g) at k))

  -- every other form
  form_fit : Fit f
  unfolding valued
  form_fit =
      cases (leb r.form 1) text_form
      (λ a. let l : 1 < r.form = leb-false r.form 1 a in
      let b : eqb r.form 0 ≡ false = ne_eqb r.form 0 (omega arith) in
      let d : eqb r.form 1 ≡ false = ne_eqb r.form 1 (omega arith) in
      cases (eqb r.form 2) (λ e. day_fit f (simp (b, d, e) at v))
      (λ e. cases (eqb r.form 3) (λ g. site_fit f (simp (b, d, e, g) at v))
      (λ g. cases (leb r.form 5)
      (λ i. code_form (omega (arith, eqb-false r.form 2 e, eqb-false r.form 3 g)) (leb-true r.form 5 i))
      (λ i. cases (eqb r.form 6) (λ j. amount_fit f (simp (b, d, e, g, i, j) at v))
      (λ j. cases (eqb r.form 8) (λ m. number_fit r.lo r.hi f (and_left _ _ (simp (b, d, e, g, i, j, m) at v)))
      (λ m. number_fit r.lo r.hi f (simp (b, d, e, g, i, j, m) at v)))))))

-- A field that passes its rule.
field_fit : (c : Context) (r : Rule) (f : List ℕ) → (wrong c r f).number ≡ 0 → Fit f
field_fit c r [] h = fit_none
field_fit c r (b ∷ f) h = let p = passes c r (b ∷ f) h refl in form_fit r (b ∷ f) p.0 p.1 p.3

-- ---- parts
-- Parts of which every one is fit: none has a comma, and with commas between them they are a line.
pub record Fits (ps : List (List ℕ)) : Type 0 where
  pub commas : no_commas ps ≡ true
  pub line : plain_line (join ps) ≡ true

plain_append : (f l : List ℕ) → plain_line f ≡ true → plain_line l ≡ true → plain_line (f ++ l) ≡ true
unfolding plain_line
plain_append [] l h k = k
plain_append (b ∷ f) l h k = rw (and_left (plain b) _ h) (plain_append f l (and_right (plain b) _ h) k)

more_parts : (f : List ℕ) (fs : List (List ℕ)) → Fit f → Fits fs → Fits (f ∷ fs)
unfolding no_commas join plain_line plain
more_parts f [] h k = record { commas = rw h.comma; line = h.line }
more_parts f (g ∷ fs) h k =
    record { commas = rw h.comma k.commas; line = plain_append f (0x2c ∷ join (g ∷ fs)) h.line k.line }

all_parts : (fs : List (List ℕ)) → ((j : ℕ) → j < length fs → Fit (get_or fs j [])) → Fits fs
unfolding no_commas join plain_line
all_parts [] h = record { commas = refl; line = refl }
all_parts (f ∷ fs) h = more_parts f fs (h 0 (omega arith)) (all_parts fs (λ j l. h (suc j) (omega arith)))

module _ (last : ℕ) (c : Context) where
  -- the fields of a record that is taken
  pub row_fits : (n : ℕ) (fs : List (List ℕ)) → Fine c n fs → Fits fs
  row_fits n fs w = all_parts fs (λ j l. field_fit c _ (get_or fs j []) (w.passes j l))

  -- and its number
  number_part : (p : List ℕ) (m : Answer ℕ) → read_number 1 999 p ≡ m → follow last (number_in m) ≡ 0 → Fit p
  number_part p (took n) e h = number_fit 1 999 p (ap is_taken e)
  number_part p (refused k q) e h = not_0 last c h

  -- The parts of a line that is taken.
  pub plain_parts : (at : ℕ) (ps : List (List ℕ)) (q : Record) → read_parts last c at ps ≡ Ok q → Fits ps
  unfolding read_parts read_number shortest
  plain_parts at [] q h = not_0 last c (taken last c at 0 _ [] q h).follows
  plain_parts at (p ∷ fs) q h =
      let t = taken last c at (number_in (read_number 1 999 p)) (at + length p + 1) fs q h in
      more_parts p fs (number_part p (read_number 1 999 p) refl t.follows) (row_fits _ fs t.fine)
