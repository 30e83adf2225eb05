-- The columns of an amount as one list: the first at fault, the shape of those with no fault, and what completes those before a fault.
-- Assumes nothing.
use Prim.Native.Nat.{ℕ, zero, suc, ◌+◌, ◌≤◌}
use mathlib.Core.Path.{◌≡◌, refl, ◌∙◌, sym, ap, ap₂}
use mathlib.Core.Bool.{true, false, cond}
use mathlib.Core.Logic.{◌⊎◌, inl, inr}
use mathlib.Core.List.{List, [], ◌∷◌, ◌++◌}
use native.Mathlib.Omega.{arith}
use lib.ListN.{length, get_or, take, drop, replicate, length-append, length-replicate}
use Rattle.cells.specs.Text.{among}
use Rattle.cells.specs.Test.{fault, first}
use Rattle.cells.specs.Cells.{cells}
use Rattle.cells.specs.declared.Fault.{Fault}
use Rattle.cells.proofs.Split.{split}
use Rattle.cells.proofs.Alike.{each}
use Rattle.supplement.specs.Amount.{figures, Figures, Allowed, Seen, nothing, lone, whole, point, decimals, end, may, next, columns}
use Rattle.supplement.proofs.Eight.{of_eight}
use Rattle.supplement.proofs.Sets.{joined, in_left, in_right}
use Rattle.supplement.proofs.Columns.{blank_point, figure_point, figure_blank}

-- the first fault of columns, the first of which has the place i + 1
unfoldable pub stop : Seen → ℕ → List ℕ → Fault
stop seen i [] = fault 0 0
stop seen i (c ∷ t) = cond (among (may seen (length t)) c) (stop (next seen c) (i + 1) t) (fault 5 (i + 1))

pub over : (s : List ℕ) → length s ≡ 8 → first (cells 6 2 (columns nothing 6 2 s) s) ≡ stop nothing 2 (drop 2 s)
unfolding cells columns first stop
over = of_eight (λ s. first (cells 6 2 (columns nothing 6 2 s) s) ≡ stop nothing 2 (drop 2 s)) (λ a b c d e f g h. refl)

-- columns with no fault: the first may stand, and those after it have no fault
abbrev Fine : Seen → ℕ → List ℕ → Type 0
Fine seen i t = (stop seen i t).number ≡ 0

pub stands : (seen : Seen) (i c : ℕ) (t : List ℕ) → Fine seen i (c ∷ t) → (among (may seen (length t)) c ≡ true) × Fine (next seen c) (i + 1) t
unfolding stop
stands seen i c t h =
    split (among (may seen (length t)) c) (λ e. (e, simp e at h)) (λ e. absurd (let z : ◌≡◌ {A = ℕ} 5 0 = simp e at h in omega arith))

pub stood : (seen : Seen) (i c : ℕ) (t : List ℕ) → among (may seen (length t)) c ≡ true → Fine (next seen c) (i + 1) t → Fine seen i (c ∷ t)
unfolding stop
stood seen i c t e h = simp e h

next_whole : (c : ℕ) → among figures c ≡ true → next whole c ≡ whole
unfolding next
next_whole c e = simp (figure_point c e, figure_blank c e)

-- what each character is
is_blank : (c : ℕ) → among "N" c ≡ true → c ≡ 78
unfolding among
is_blank = each (λ c. c) (λ c. 78) "N" refl

is_point : (c : ℕ) → among "." c ≡ true → c ≡ 46
unfolding among
is_point = each (λ c. c) (λ c. 46) "." refl

-- every element is a digit
abbrev pub Digits : List ℕ → Type 0
Digits d = (i : ℕ) → suc i ≤ length d → among figures (get_or d i 0) ≡ true

pub no_digits : Digits []
no_digits i l = absurd (omega arith)

pub one_more : (c : ℕ) (d : List ℕ) → among figures c ≡ true → Digits d → Digits (c ∷ d)
one_more c d e h zero l = e
one_more c d e h (suc i) l = h i (omega arith)

pub one_less : (c : ℕ) (d : List ℕ) → Digits (c ∷ d) → Digits d
one_less c d h i l = h (suc i) (omega arith)

-- nothing, or a point and digits
abbrev pub Fraction : List ℕ → Type 0
Fraction f = (f ≡ []) ⊎ ((get_or f 0 0 ≡ 46) × Figures (drop 1 f))

-- ---- columns with no fault have the shape of an allowed amount
abbrev Blanks : List ℕ → Type 0
Blanks t = t ≡ replicate (length t) 78

all_blank : (t : List ℕ) (i : ℕ) → Fine end i t → Blanks t
unfolding may next
all_blank [] i h = refl
all_blank (c ∷ t) i h = let k = stands end i c t h in ap₂ (λ (x : ℕ) (l : List ℕ). x ∷ l) (is_blank c k.0) (all_blank t (i + 1) k.1)

-- digits after the point
Tail : List ℕ → Type 0
Tail t = (d : List ℕ) × (b : ℕ) × (t ≡ d ++ replicate b 78) × Digits d

after_decimals : (t : List ℕ) (i : ℕ) → Fine decimals i t → Tail t
unfolding Tail may next
after_decimals [] i h = ([], 0, refl, no_digits)
after_decimals (c ∷ t) i h = go (stands decimals i c t h) (λ k. after_decimals t (i + 1) k)
  where
    go : (among "0123456789N" c ≡ true) × Fine (cond (among "N" c) end decimals) (i + 1) t → (Fine decimals (i + 1) t → Tail t) → Tail (c ∷ t)
    go k f =
        split (among "N" c)
        (λ e. ([], suc (length t), ap₂ (λ (x : ℕ) (l : List ℕ). x ∷ l) (is_blank c e) (all_blank t (i + 1) (simp e at k.1)), no_digits))
        (λ e. let r = f (simp e at k.1) in (c ∷ r.0, r.1, ap (λ (l : List ℕ). c ∷ l) r.2, one_more c r.0 (in_left figures "N" c k.0 e) r.3))

-- a point and what follows it, or nothing but N
Decimal : List ℕ → Type 0
Decimal t = (f : List ℕ) × (b : ℕ) × (t ≡ f ++ replicate b 78) × Fraction f

after_point : (t : List ℕ) (i : ℕ) → 1 ≤ length t → Fine point i t → (d : List ℕ) × (b : ℕ) × (t ≡ d ++ replicate b 78) × Figures d
unfolding Tail may next
after_point [] i l h = absurd (omega arith)
after_point (c ∷ t) i l h =
    let k = stands point i c t h in
    let r = after_decimals t (i + 1) k.1 in
    (c ∷ r.0, r.1, ap (λ (l : List ℕ). c ∷ l) r.2, (omega arith, one_more c r.0 k.0 r.3))

-- a point stands only where a column is left
room : (n c : ℕ) → among (may lone n) c ≡ true → among "." c ≡ true → 1 ≤ n
unfolding may
room zero c h e = absurd (let z : true ≡ false = sym e ∙ blank_point c h in let y : ◌≡◌ {A = ℕ} 0 1 = cc in omega arith)
room (suc n) c h e = omega arith

or_blank : (n c : ℕ) → among (may lone n) c ≡ true → among "." c ≡ false → among "N" c ≡ true
unfolding may
or_blank zero c h e = h
or_blank (suc n) c h e = in_right "." "N" c h e

after_lone : (t : List ℕ) (i : ℕ) → Fine lone i t → Decimal t
unfolding Decimal next
after_lone [] i h = ([], 0, refl, inl refl)
after_lone (c ∷ t) i h = go (stands lone i c t h)
  where
    go : (among (may lone (length t)) c ≡ true) × Fine (cond (among "." c) point end) (i + 1) t → Decimal (c ∷ t)
    go k =
        split (among "." c)
        (λ e. let r = after_point t (i + 1) (room (length t) c k.0 e) (simp e at k.1) in
        (c ∷ r.0, r.1, ap (λ (l : List ℕ). c ∷ l) r.2, inr (is_point c e, r.3)))
        (λ e. ([], suc (length t), ap₂ (λ (x : ℕ) (l : List ℕ). x ∷ l) (is_blank c (or_blank (length t) c k.0 e)) (all_blank t (i + 1) (simp e at k.1)), inl refl))

-- whole digits, and then those
More : List ℕ → Type 0
More t = (w : List ℕ) × (f : List ℕ) × (b : ℕ) × (t ≡ w ++ f ++ replicate b 78) × Digits w × Fraction f

-- a character that is no digit may stand after whole digits where it may after a 0 alone, and is the same there
as_lone : (n c : ℕ) → among figures c ≡ false → among (may whole n) c ≡ among (may lone n) c
unfolding may
as_lone zero c e = joined figures "N" c ∙ simp e
as_lone (suc n) c e = joined figures ".N" c ∙ simp e

next_lone : (n c : ℕ) → among figures c ≡ false → among (may lone n) c ≡ true → next whole c ≡ next lone c
unfolding next
next_lone n c e h = split (among "." c) (λ f. simp f) (λ f. simp (f, or_blank n c h f))

after_whole : (t : List ℕ) (i : ℕ) → Fine whole i t → More t
unfolding More Decimal
after_whole [] i h = ([], [], 0, refl, no_digits, inl refl)
after_whole (c ∷ t) i h = go (stands whole i c t h) (λ k. after_whole t (i + 1) k)
  where
    go : (among (may whole (length t)) c ≡ true) × Fine (next whole c) (i + 1) t → (Fine whole (i + 1) t → More t) → More (c ∷ t)
    go k f =
        split (among figures c)
        (λ e. let r = f (rw (next_whole c e) at k.1) in (c ∷ r.0, r.1, r.2, ap (λ (l : List ℕ). c ∷ l) r.3, one_more c r.0 e r.4, r.5))
        (λ e. let m : among (may lone (length t)) c ≡ true = sym (as_lone (length t) c e) ∙ k.0 in
        let r = after_lone (c ∷ t) i (stood lone i c t m (rw (next_lone (length t) c e m) at k.1)) in
        ([], r.0, r.1, r.2, no_digits, r.3))

pub allowed : (t : List ℕ) (i : ℕ) → length t ≡ 6 → Fine nothing i t → Allowed t
unfolding Decimal More may next
allowed [] i l h = absurd (omega arith)
allowed (c ∷ t) i l h = go (stands nothing i c t h)
  where
    go : (among figures c ≡ true) × Fine (cond (among "0" c) lone whole) (i + 1) t → Allowed (c ∷ t)
    go k =
        split (among "0" c)
        (λ e. let r = after_lone t (i + 1) (simp e at k.1) in
        record {
          whole = c ∷ [];
          fraction = r.0;
          blanks = r.1;
          six = l;
          made = ap (λ (l : List ℕ). c ∷ l) r.2;
          digits = (omega arith, one_more c [] k.0 no_digits);
          shortest = inl refl;
          after = r.3;
        })
        (λ e. let r = after_whole t (i + 1) (simp e at k.1) in
        record {
          whole = c ∷ r.0;
          fraction = r.1;
          blanks = r.2;
          six = l;
          made = ap (λ (l : List ℕ). c ∷ l) r.3;
          digits = (omega arith, one_more c r.0 k.0 r.4);
          shortest = inr e;
          after = r.5;
        })

-- ---- an allowed amount has no fault
blank_lone : (n : ℕ) → among (may lone n) 78 ≡ true
unfolding may among
blank_lone zero = refl
blank_lone (suc n) = refl

point_lone : (n : ℕ) → 1 ≤ n → among (may lone n) 46 ≡ true
unfolding may among
point_lone zero h = absurd (omega arith)
point_lone (suc n) h = refl

no_figure : (n c : ℕ) → among (may lone n) c ≡ true → among figures c ≡ false
no_figure n c h = split (among figures c) (λ e. e ∙ sym (or_blank n c h (figure_point c e)) ∙ figure_blank c e) (λ e. e)

figure_whole : (n c : ℕ) → among figures c ≡ true → among (may whole n) c ≡ true
unfolding may
figure_whole zero c e = joined figures "N" c ∙ simp e
figure_whole (suc n) c e = joined figures ".N" c ∙ simp e

figure_decimal : (n c : ℕ) → among figures c ≡ true → among (may decimals n) c ≡ true
unfolding may
figure_decimal n c e = joined figures "N" c ∙ simp e

next_decimal : (c : ℕ) → among figures c ≡ true → next decimals c ≡ decimals
unfolding next
next_decimal c e = simp (figure_blank c e)

fine_blanks : (b i : ℕ) → Fine end i (replicate b 78)
unfolding stop may next among
fine_blanks zero i = refl
fine_blanks (suc b) i = stood end i 78 (replicate b 78) refl (fine_blanks b (i + 1))

fine_decimals : (d : List ℕ) (b i : ℕ) → Digits d → Fine decimals i (d ++ replicate b 78)
unfolding stop may next among
fine_decimals [] zero i h = refl
fine_decimals [] (suc b) i h = stood decimals i 78 (replicate b 78) refl (fine_blanks b (i + 1))
fine_decimals (c ∷ d) b i h =
    stood decimals i c (d ++ replicate b 78) (figure_decimal (length (d ++ replicate b 78)) c (h 0 (omega arith)))
    (rw (next_decimal c (h 0 (omega arith))) (fine_decimals d b (i + 1) (one_less c d h)))

fine_point : (d : List ℕ) (b i : ℕ) → Figures d → Fine point i (d ++ replicate b 78)
unfolding may next
fine_point [] b i h = absurd (omega arith)
fine_point (c ∷ d) b i h = stood point i c (d ++ replicate b 78) (h.1 0 (omega arith)) (fine_decimals d b (i + 1) (one_less c d h.1))

fine_lone : (f : List ℕ) (b i : ℕ) → Fraction f → Fine lone i (f ++ replicate b 78)
unfolding stop next among
fine_lone [] zero i h = refl
fine_lone [] (suc b) i h = stood lone i 78 (replicate b 78) (blank_lone (length (replicate b 78))) (fine_blanks b (i + 1))
fine_lone (c ∷ f) b i (inl e) = absurd (let z : ◌≡◌ {A = ℕ} 0 1 = cc in omega arith)
fine_lone (c ∷ f) b i (inr h) =
    let l : 1 ≤ length (f ++ replicate b 78) = omega (arith, length-append f (replicate b 78)) in
    rw h.0 (stood lone i 46 (f ++ replicate b 78) (point_lone (length (f ++ replicate b 78)) l) (fine_point f b (i + 1) h.1))

-- what may stand after a 0 alone may stand after whole digits
as_whole : (t : List ℕ) (i : ℕ) → Fine lone i t → Fine whole i t
unfolding stop
as_whole [] i h = refl
as_whole (c ∷ t) i h =
    let k = stands lone i c t h in
    let e : among figures c ≡ false = no_figure (length t) c k.0 in
    stood whole i c t (as_lone (length t) c e ∙ k.0) (rw (next_lone (length t) c e k.0) k.1)

fine_whole : (w f : List ℕ) (b i : ℕ) → Digits w → Fraction f → Fine whole i (w ++ f ++ replicate b 78)
fine_whole [] f b i h g = as_whole (f ++ replicate b 78) i (fine_lone f b i g)
fine_whole (c ∷ w) f b i h g =
    stood whole i c (w ++ f ++ replicate b 78) (figure_whole _ c (h 0 (omega arith)))
    (rw (next_whole c (h 0 (omega arith))) (fine_whole w f b (i + 1) (one_less c w h) g))

fine_made : (w f : List ℕ) (b i : ℕ) → Figures w → (length w ≡ 1) ⊎ (among "0" (get_or w 0 0) ≡ false) → Fraction f → Fine nothing i (w ++ f ++ replicate b 78)
unfolding may next
fine_made [] f b i h s g = absurd (omega arith)
fine_made (c ∷ []) f b i h s g =
    stood nothing i c (f ++ replicate b 78) (h.1 0 (omega arith))
    (split (among "0" c) (λ e. simp e (fine_lone f b (i + 1) g)) (λ e. simp e (fine_whole [] f b (i + 1) no_digits g)))
fine_made (c ∷ d ∷ w) f b i h (inl l) g = absurd (omega arith)
fine_made (c ∷ d ∷ w) f b i h (inr e) g =
    stood nothing i c ((d ∷ w) ++ f ++ replicate b 78) (h.1 0 (omega arith)) (simp e (fine_whole (d ∷ w) f b (i + 1) (one_less c (d ∷ w) h.1) g))

pub fine : (t : List ℕ) (i : ℕ) → Allowed t → Fine nothing i t
fine t i a = rw a.made (fine_made a.whole a.fraction a.blanks i a.digits a.shortest a.after)

-- ---- columns with a fault: the amount that agrees with those before it, and that none agrees with one more
abbrev filled : Seen → ℕ → List ℕ
filled nothing n = 48 ∷ replicate n 78
filled lone n = replicate (suc n) 78
filled whole n = replicate (suc n) 78
filled point n = 48 ∷ replicate n 78
filled decimals n = replicate (suc n) 78
filled end n = replicate (suc n) 78

a_zero : Figures (48 ∷ [])
unfolding among
a_zero = (omega arith, one_more 48 [] refl no_digits)

fine_filled : (seen : Seen) (n i : ℕ) → Fine seen i (filled seen n)
fine_filled nothing n i = fine_made (48 ∷ []) [] n i a_zero (inl refl) (inl refl)
fine_filled lone n i = fine_lone [] (suc n) i (inl refl)
fine_filled whole n i = fine_whole [] [] (suc n) i no_digits (inl refl)
fine_filled point n i = fine_point (48 ∷ []) n i a_zero
fine_filled decimals n i = fine_decimals [] (suc n) i no_digits
fine_filled end n i = fine_blanks (suc n) i

filled_long : (seen : Seen) (n : ℕ) → length (filled seen n) ≡ suc n
filled_long nothing n = ap suc (length-replicate n 78)
filled_long lone n = ap suc (length-replicate n 78)
filled_long whole n = ap suc (length-replicate n 78)
filled_long point n = ap suc (length-replicate n 78)
filled_long decimals n = ap suc (length-replicate n 78)
filled_long end n = ap suc (length-replicate n 78)

pub record Stopped (seen : Seen) (i : ℕ) (t : List ℕ) : Type 0 where
  pub k : ℕ
  pub here : stop seen i t ≡ fault 5 (i + 1 + k)
  pub other : List ℕ
  pub long : length other ≡ length t
  pub fine : Fine seen i other
  pub same : take k other ≡ take k t
  pub none : (b : List ℕ) → length b ≡ length t → take (suc k) b ≡ take (suc k) t → Fine seen i b → ⊥

pub stopped : (t : List ℕ) (seen : Seen) (i : ℕ) → (Fine seen i t → ⊥) → Stopped seen i t
unfolding stop
stopped [] seen i h = absurd (h refl)
stopped (c ∷ t) seen i h =
    split (among (may seen (length t)) c) (λ e. later e (stopped t (next seen c) (i + 1) (λ z. h (stood seen i c t e z)))) now_here
  where
    later : among (may seen (length t)) c ≡ true → Stopped (next seen c) (i + 1) t → Stopped seen i (c ∷ t)
    later e r =
        record {
          k = suc r.k;
          here = simp e (r.here ∙ ap (fault 5) (omega arith));
          other = c ∷ r.other;
          long = ap suc r.long;
          fine = stood seen i c r.other (rw r.long e) r.fine;
          same = ap (λ (l : List ℕ). c ∷ l) r.same;
          none = none_later;
        }
      where
        none_later : (b : List ℕ) → length b ≡ length (c ∷ t) → take (suc (suc r.k)) b ≡ take (suc (suc r.k)) (c ∷ t) → Fine seen i b → ⊥
        none_later [] l q z = omega arith
        none_later (x ∷ b) l q z =
            let p : x ≡ c = cc in
            let u : take (suc r.k) b ≡ take (suc r.k) t = cc in
            r.none b (omega arith) u (rw p at (stands seen i x b z).1)

    now_here : among (may seen (length t)) c ≡ false → Stopped seen i (c ∷ t)
    now_here e =
        record {
          k = 0;
          here = simp e (ap (fault 5) (omega arith));
          other = filled seen (length t);
          long = filled_long seen (length t);
          fine = fine_filled seen (length t) i;
          same = refl;
          none = none_here;
        }
      where
        none_here : (b : List ℕ) → length b ≡ length (c ∷ t) → take 1 b ≡ take 1 (c ∷ t) → Fine seen i b → ⊥
        none_here [] l q z = omega arith
        none_here (x ∷ b) l q z =
            let p : x ≡ c = cc in
            let m : length b ≡ length t = omega arith in
            let y : among (may seen (length t)) c ≡ true = rw (p, m) at (stands seen i x b z).0 in
            let o : ◌≡◌ {A = ℕ} 0 1 = cc in omega arith
