-- What the automaton of the frame has read, and the files that it takes.
-- Assumes nothing.
use Prim.Native.Nat.{ℕ, zero, suc, ◌+◌, ◌<◌, ◌≤◌}
use mathlib.Core.Path.{◌≡◌, refl, ◌∙◌, sym, ap}
use mathlib.Core.Bool.{true}
use mathlib.Core.List.{List, [], ◌∷◌, ◌++◌}
use native.Mathlib.Omega.{arith}
use borrow.Author.Tests.{eq-eqb, ne_eqb, leb-true, eqb-true, eqb-false}
use lib.Dec.{leb, eqb}
use lib.ListN.{length, take}
use Rattle.cells.specs.Test.{fault}
use Rattle.cells.proofs.Split.{split as cases}
use Rattle.line.specs.Frame.{plain, plain_line, plain_lines, file, WellFramed, read, wrong, in_line, next, frame_from}
use Rattle.line.proofs.Fields.{and_parts}

-- what has been read after all of some bytes
unfoldable pub run : ℕ → List ℕ → ℕ
run state [] = state
run state (b ∷ s) = run (next state b) s

pub run_append : (state : ℕ) (s t : List ℕ) → run state (s ++ t) ≡ run (run state s) t
unfolding run
run_append state [] t = refl
run_append state (b ∷ s) t = run_append (next state b) s t

-- what is wrong stays wrong,
pub run_wrong : (s : List ℕ) → run wrong s ≡ wrong
unfolding run next
run_wrong [] = refl
run_wrong (b ∷ s) = run_wrong s

-- and nothing comes after a whole file.
run_read : (s : List ℕ) → run read s ≡ read → s ≡ []
unfolding run next
run_read [] h = refl
run_read (b ∷ s) h = absurd (let z : wrong ≡ read = sym (run_wrong s) ∙ h in omega arith)

-- ---- a well framed file is read whole
pub plain_least : (b : ℕ) → plain b ≡ true → 0x20 ≤ b
unfolding plain
plain_least b h = leb-true 0x20 b (and_parts (leb 0x20 b) _ h).0

pub in_plain : (b : ℕ) → plain b ≡ true → in_line b ≡ 0
unfolding in_line
in_plain b h = let l : 0x20 ≤ b = plain_least b h in rw (ne_eqb b 0x0d (omega arith), h)

next_plain : (b : ℕ) → plain b ≡ true → next 2 b ≡ next 0 b
unfolding next
next_plain b h = let l : 0x20 ≤ b = plain_least b h in rw (ne_eqb b 0x1a (omega arith))

line_run : (l s : List ℕ) → plain_line l ≡ true → run 0 (l ++ 0x0d ∷ 0x0a ∷ s) ≡ run 2 s
unfolding run next in_line plain_line
line_run [] s h = refl
line_run (b ∷ l) s h =
    let k = and_parts (plain b) _ h in ap (λ (n : ℕ). run n (l ++ 0x0d ∷ 0x0a ∷ s)) (in_plain b k.0) ∙ line_run l s k.1

line_next : (l s : List ℕ) → plain_line l ≡ true → run 2 (l ++ 0x0d ∷ 0x0a ∷ s) ≡ run 0 (l ++ 0x0d ∷ 0x0a ∷ s)
unfolding run next plain_line
line_next [] s h = refl
line_next (b ∷ l) s h = ap (λ (n : ℕ). run n (l ++ 0x0d ∷ 0x0a ∷ s)) (next_plain b (and_parts (plain b) _ h).0)

lines_run : (ls : List (List ℕ)) → plain_lines ls ≡ true → run 2 (file ls) ≡ read
unfolding run next file plain_lines
lines_run [] h = refl
lines_run (l ∷ ls) h =
    let k = and_parts (plain_line l) _ h in
    line_next l (file ls) k.0 ∙ line_run l (file ls) k.0 ∙ lines_run ls k.1

some_run : (ls : List (List ℕ)) → 1 ≤ length ls → plain_lines ls ≡ true → run 0 (file ls) ≡ read
unfolding file plain_lines
some_run [] l h = absurd (omega arith)
some_run (l ∷ ls) m h = let k = and_parts (plain_line l) _ h in line_run l (file ls) k.0 ∙ lines_run ls k.1

pub framed_run : (s : List ℕ) → WellFramed s → run 0 s ≡ read
framed_run s w = ap (run 0) w.bytes ∙ some_run w.lines w.some w.plain

-- ---- what is read whole is well framed
-- lines and the 1Ah; one line or more; the LF of a line, and then lines
record Lines (s : List ℕ) : Type 0 where
  lines : List (List ℕ)
  plain : plain_lines lines ≡ true
  bytes : s ≡ file lines

record Some (s : List ℕ) : Type 0 where
  line : List ℕ
  more : List (List ℕ)
  plain : plain_lines (line ∷ more) ≡ true
  bytes : s ≡ file (line ∷ more)

record Feed (s : List ℕ) : Type 0 where
  rest : List ℕ
  bytes : s ≡ 0x0a ∷ rest
  lines : Lines rest

in_line_lem : (b : ℕ) (s : List ℕ) → (run 0 s ≡ read → Some s) → (run 1 s ≡ read → Feed s) → run (in_line b) s ≡ read → Some (b ∷ s)
unfolding in_line file plain_lines plain_line
in_line_lem b s f g h =
    cases (eqb b 0x0d)
    (λ e. let r = g (simp e at h) in
    let q : b ≡ 0x0d = eqb-true b 0x0d e in
    let v : r.rest ≡ file r.lines.lines = r.lines.bytes in
    let u : s ≡ 0x0a ∷ r.rest = r.bytes in
    record { line = []; more = r.lines.lines; plain = r.lines.plain; bytes = cc })
    (λ e. cases (plain b)
    (λ p. let r = f (simp (e, p) at h) in
    record { line = b ∷ r.line; more = r.more; plain = rw p r.plain; bytes = ap (λ (t : List ℕ). b ∷ t) r.bytes })
    (λ p. absurd (let z : wrong ≡ read = sym (run_wrong s) ∙ (simp (e, p) at h) in omega arith)))

feed : (b : ℕ) (s : List ℕ) → (run 2 s ≡ read → Lines s) → run 1 (b ∷ s) ≡ read → Feed (b ∷ s)
unfolding run next
feed b s f h =
    cases (eqb b 0x0a)
    (λ e. record { rest = s; bytes = ap (λ (c : ℕ). c ∷ s) (eqb-true b 0x0a e); lines = f (simp e at h) })
    (λ e. absurd (let z : wrong ≡ read = sym (run_wrong s) ∙ (simp e at h) in omega arith))

more : (b : ℕ) (s : List ℕ) → (run (in_line b) s ≡ read → Some (b ∷ s)) → run 2 (b ∷ s) ≡ read → Lines (b ∷ s)
unfolding run next file plain_lines
more b s f h =
    cases (eqb b 0x1a)
    (λ e. let q : b ≡ 0x1a = eqb-true b 0x1a e in
    let z : s ≡ [] = run_read s (simp e at h) in
    record { lines = []; plain = refl; bytes = cc })
    (λ e. let r = f (simp e at h) in record { lines = r.line ∷ r.more; plain = r.plain; bytes = r.bytes })

record Read (s : List ℕ) : Type 0 where
  zero : run 0 s ≡ read → Some s
  one : run 1 s ≡ read → Feed s
  two : run 2 s ≡ read → Lines s

whole : (s : List ℕ) → Read s
unfolding run next
whole [] = record { zero = λ h. absurd (omega arith); one = λ h. absurd (omega arith); two = λ h. absurd (omega arith) }
whole (b ∷ s) =
    let r = whole s in
    record { zero = in_line_lem b s r.zero r.one; one = feed b s r.two; two = more b s (in_line_lem b s r.zero r.one) }

pub run_framed : (s : List ℕ) → run 0 s ≡ read → WellFramed s
run_framed s h =
    let r = (whole s).zero h in record { lines = r.line ∷ r.more; some = omega arith; plain = r.plain; bytes = r.bytes }

-- ---- what has been read can be ended
unfoldable pub done : ℕ → List ℕ
done zero = 0x0d ∷ 0x0a ∷ 0x1a ∷ []
done (suc zero) = 0x0a ∷ 0x1a ∷ []
done (suc (suc zero)) = 0x1a ∷ []
done (suc (suc (suc n))) = []

pub run_done : (state : ℕ) → state ≤ 3 → run state (done state) ≡ read
unfolding run next in_line done
run_done zero h = refl
run_done (suc zero) h = refl
run_done (suc (suc zero)) h = refl
run_done (suc (suc (suc n))) h = omega arith

-- there are five states
in_most : (b : ℕ) → in_line b ≤ 4
unfolding in_line
in_most b = cases (eqb b 0x0d) (λ e. rw e (omega arith)) (λ e. cases (plain b) (λ p. rw (e, p) (omega arith)) (λ p. rw (e, p) (omega arith)))

next_most : (state b : ℕ) → next state b ≤ 4
unfolding next
next_most state b =
    cases (eqb state 0) (λ e. rw e (in_most b))
    (λ e. cases (eqb state 1) (λ f. cases (eqb b 0x0a) (λ g. simp (e, f, g) (omega arith)) (λ g. simp (e, f, g) (omega arith)))
    (λ f. cases (eqb state 2) (λ g. cases (eqb b 0x1a) (λ k. simp (e, f, g, k) (omega arith)) (λ k. simp (e, f, g, k) (in_most b)))
    (λ g. simp (e, f, g) (omega arith))))

pub run_most : (s : List ℕ) (state : ℕ) → state ≤ 4 → run state s ≤ 4
unfolding run
run_most [] state h = h
run_most (b ∷ s) state h = run_most s (next state b) (next_most state b)

-- ---- where the reading stops
pub record Stop (state : ℕ) (s : List ℕ) (j : ℕ) : Type 0 where
  pub within : j ≤ length s
  pub well : run state (take j s) ≡ wrong → ⊥
  pub ill : j < length s → run state (take (j + 1) s) ≡ wrong
  pub short : j ≡ length s → run state s ≡ read → ⊥

pub no_fault : (s : List ℕ) (state k : ℕ) → run state s ≡ read → (state ≡ wrong → ⊥) → frame_from state k s ≡ fault 0 0
unfolding run frame_from
no_fault [] state k h n = rw (eq-eqb state read h)
no_fault (b ∷ s) state k h n =
    cases (eqb (next state b) wrong)
    (λ e. absurd (let z : wrong ≡ read = sym (run_wrong s) ∙ ap (λ (t : ℕ). run t s) (sym (eqb-true _ _ e)) ∙ h in omega arith))
    (λ e. rw e (no_fault s (next state b) (k + 1) h (eqb-false _ _ e)))

-- by whether all is read
pub by_run : {P : Type 0} (s : List ℕ) (state k : ℕ) → (state ≡ wrong → ⊥) →
    (run state s ≡ read → P) → ((j : ℕ) → frame_from state k s ≡ fault 21 (k + j) → Stop state s j → P) → P
unfolding run frame_from
by_run [] state k n f g =
    cases (eqb state read) (λ e. f (eqb-true state read e))
    (λ e. g 0 (rw e (ap (fault 21) (omega arith))) (record { within = omega arith; well = n; ill = λ l. absurd (omega arith); short = λ l. eqb-false state read e }))
by_run (b ∷ s) state k n f g =
    cases (eqb (next state b) wrong)
    (λ e. g 0 (rw e (ap (fault 21) (omega arith)))
    (record { within = omega arith; well = n; ill = λ l. eqb-true (next state b) wrong e; short = λ l. absurd (omega arith) }))
    (λ e. by_run s (next state b) (k + 1) (eqb-false _ _ e) f
    (λ j q p. let a : k + 1 + j ≡ k + suc j = omega arith in
    let d : suc j + 1 ≡ suc (j + 1) = omega arith in
    g (suc j) (rw e (q ∙ ap (fault 21) a))
    (record { within = omega (arith, p.within); well = p.well; ill = λ l. rw d (p.ill (omega arith)); short = λ l. p.short (omega arith) })))
