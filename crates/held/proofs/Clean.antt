-- A field that passes its rule has no comma and no byte that never stands in a line, form by form.
-- Assumes nothing.
use Prim.Native.Nat.{ℕ, suc, ◌<◌, ◌≤◌}
use Prim.Native.String.{String}
use mathlib.Core.Path.{◌≡◌, refl}
use mathlib.Core.Bool.{Bool, true, cond, ◌&&◌}
use mathlib.Core.List.{List, [], ◌∷◌}
use native.Mathlib.Omega.{arith}
use borrow.Author.Tests.{eqb-true, ne_eqb, le-leb, leb-true}
use lib.Dec.{leb, eqb}
use lib.ListN.{length, get_or}
use Rattle.cells.specs.Text.{among}
use Rattle.cells.proofs.Split.{split as cases}
use Rattle.cells.proofs.Alike.{and_left, and_right, and_parts, alike, each}
use Rattle.line.specs.Frame.{plain, plain_line}
use Rattle.line.specs.Fields.{no_comma}
use Rattle.text.specs.Text.{text}
use Rattle.text.proofs.Laws.{no_comma_lem, no_control}
use Rattle.number.specs.Number.{figures, shortest, read_number}
use Rattle.number.specs.Amount.{before, after, pointed, fraction, amount, read_amount}
use Rattle.number.proofs.Sizes.{figures_parts}
use Rattle.number.proofs.Whole.{shortest_figures, fraction_parts, unpointed}
use Rattle.date.specs.Date.{read_date}
use Rattle.field.specs.Field.{is_taken, is_site}
use Rattle.field.specs.Field as Field

-- A byte that may stand in a field.
abbrev pub Clean : ℕ → Type 0
Clean b = (0x20 ≤ b) × (b ≡ 0x2c → ⊥) × (b ≡ 0x7f → ⊥)

-- A field of such bytes.
pub record Fit (f : List ℕ) : Type 0 where
  pub comma : no_comma f ≡ true
  pub line : plain_line f ≡ true

pub fit_none : Fit []
unfolding no_comma plain_line
fit_none = record { comma = refl; line = refl }

pub fit_more : (b : ℕ) (f : List ℕ) → Clean b → Fit f → Fit (b ∷ f)
unfolding no_comma plain_line plain
fit_more b f h k =
    record {
      comma = rw (ne_eqb b 0x2c h.1) k.comma;
      line = rw (le-leb 0x20 b h.0, ne_eqb b 0x7f h.2) k.line;
    }

-- byte by byte
pub fit : (f : List ℕ) → ((i : ℕ) → i < length f → Clean (get_or f i 0)) → Fit f
fit [] h = fit_none
fit (b ∷ f) h = fit_more b f (h 0 (omega arith)) (fit f (λ i l. h (suc i) (omega arith)))

-- ---- texts
pub text_fit : (f : List ℕ) → text f ≡ true → Fit f
text_fit f h = fit f (λ i l. let p = no_control f h i l in (p.0, no_comma_lem f h i l, p.1))

-- ---- digits, and digits with a point
figures_fit : (f : List ℕ) → figures f ≡ true → Fit f
figures_fit [] h = fit_none
figures_fit (b ∷ f) h = let p = figures_parts b f h in fit_more b f (omega (arith, p.0, p.1)) (figures_fit f p.2)

pub number_fit : (lo hi : ℕ) (f : List ℕ) → is_taken (read_number lo hi f) ≡ true → Fit f
unfolding read_number
number_fit lo hi f h =
    cases (shortest f) (λ e. figures_fit f (shortest_figures f e))
    (λ e. absurd (let k = simp e at h in let z : ◌≡◌ {A = ℕ} 0 1 = cc in omega arith))

-- the digits before the point, and those after it
point_fit : (f : List ℕ) → figures (before f) ≡ true → figures (after f) ≡ true → Fit f
unfolding before after
point_fit [] h k = fit_none
point_fit (b ∷ f) h k =
    cases (eqb b 46) (λ e. let q : b ≡ 46 = eqb-true b 46 e in fit_more b f (omega arith) (figures_fit f (simp e at k)))
    (λ e. let p = figures_parts b (before f) (simp e at h) in fit_more b f (omega (arith, p.0, p.1)) (point_fit f p.2 (simp e at k)))

fraction_figures : (f : List ℕ) → cond (pointed f) (fraction (after f)) true ≡ true → figures (after f) ≡ true
unfolding figures
fraction_figures f h =
    cases (pointed f) (λ e. (fraction_parts (after f) (simp e at h)).2) (λ e. rw (unpointed f e))

pub amount_fit : (f : List ℕ) → is_taken (read_amount f) ≡ true → Fit f
unfolding read_amount amount
amount_fit f h =
    cases (amount f)
    (λ e. let p = and_parts (shortest (before f)) _ e in
    point_fit f (shortest_figures (before f) p.0) (fraction_figures f (and_right (leb (length (before f)) 6) _ p.1)))
    (λ e. absurd (let k = simp e at h in let z : ◌≡◌ {A = ℕ} 0 1 = cc in omega arith))

-- a date
pub day_fit : (f : List ℕ) → is_taken (read_date f) ≡ true → Fit f
unfolding read_date
day_fit f h =
    cases (figures f) (λ e. figures_fit f e) (λ e. absurd (let k = simp e at h in let z : ◌≡◌ {A = ℕ} 0 1 = cc in omega arith))

-- ---- characters of sets
-- a character from the hyphen to the tilde
abbrev pub shown : ℕ → ℕ
shown c = cond (leb 0x2d c && leb c 0x7e) 1 0

-- every character of a set is one: computed
abbrev pub shown_in : String → Bool
shown_in x = alike shown (λ c. 1) x

abbrev pub Shown : String → Type 0
Shown x = shown_in x ≡ true

pub shown_clean : (b : ℕ) → shown b ≡ 1 → Clean b
shown_clean b h =
    cases (leb 0x2d b && leb b 0x7e)
    (λ e. let p = and_parts (leb 0x2d b) _ e in omega (arith, leb-true 0x2d b p.0, leb-true b 0x7e p.1))
    (λ e. absurd (let z : ◌≡◌ {A = ℕ} 0 1 = simp e at h in omega arith))

pub set_clean : (x : String) → Shown x → (b : ℕ) → among x b ≡ true → Clean b
set_clean x t b h = shown_clean b (each shown (λ c. 1) x t b h)

set_fit : (x : String) → Shown x → (f : List ℕ) → Field.each x f ≡ true → Fit f
unfolding Field.each
set_fit x t [] h = fit_none
set_fit x t (b ∷ f) h = fit_more b f (set_clean x t b (and_left (among x b) _ h)) (set_fit x t f (and_right (among x b) _ h))

-- a site
pub site_fit : (f : List ℕ) → is_site f ≡ true → Fit f
site_fit f h = set_fit "0123456789ABCDEFGHIJKLMNOPQRSTUVWXYZ" refl f (and_right (eqb (length f) 3) _ h)
