-- A record leaves less of the file, and the calls after it end as they did before it; an answer that hands out none is how they end.
-- Assumes nothing.
use Prim.Native.Nat.{ℕ, ◌-◌, ◌<◌}
use mathlib.Core.Path.{◌≡◌, refl, ◌∙◌, sym, ap, subst}
use mathlib.Core.Bool.{true, false}
use mathlib.Core.List.{List}
use native.Mathlib.Omega.{arith}
use lib.ListN.{length}
use Rattle.record.specs.declared.Record.{Record}
use Rattle.reader.specs.Reader.{next_record, ending_of}
use Rattle.std.proofs.Common.{rules}
use Rattle.std.specs.Prelude.{Option, Some, None, Result, Ok, Err, is_some}
use Rattle.record.specs.declared.Refusal.{Refusal}
use Rattle.reader.specs.Said.{Next, Hands, Refuses, End, Turn, said_next}
use Rattle.reader.specs.declared.State.{State}
use Rattle.reader.proofs.Laws.{moves, was_inside}
use Rattle.sheet.specs.Walk.{hands as hands_of, Ends, here, later}
use Rattle.sheet.specs.declared.Sheet.{Sheet}
use Rattle.sheet.proofs.last.Goals as goal

which : (x : Next) → hands_of x ≡ true → (r : Record) × (x ≡ Hands r)
which (Hands r) h = (r, refl)
which (Refuses f) h = absurd (let z : ◌≡◌ {A = ℕ} 0 1 = cc in omega arith)
which End h = absurd (let z : ◌≡◌ {A = ℕ} 0 1 = cc in omega arith)

less : (s : List ℕ) (t : State) → hands_of (next_record s t).next ≡ true → length s - (next_record s t).state.at < length s - t.at
less s t h =
    let r = which (next_record s t).next h in
    omega (arith, moves s t r.0 r.1, was_inside s t r.0 r.1)

-- the file is the sheet's at the start, s, and the sheet's at hand, u
goes : (s u : List ℕ) (t : State) (a : Next) → u ≡ s → hands_of (next_record u t).next ≡ true → Ends s a (next_record u t).state → Ends s a t
goes s u t a g h e =
    later (subst (λ (x : List ℕ). hands_of (next_record x t).next ≡ true) g h) (subst (λ (x : List ℕ). Ends s a (next_record x t).state) g e)

stops : (s u : List ℕ) (t : State) (a : Next) → u ≡ s → hands_of (next_record u t).next ≡ false → a ≡ (next_record u t).next → Ends s a t
stops s u t a g h e =
    here (subst (λ (x : List ℕ). hands_of (next_record x t).next ≡ false) g h) (subst (λ (x : List ℕ). a ≡ (next_record x t).next) g e)

-- an answer with a record hands one out, and one without is the end
some_hands : (x : Result (Option Record) Refusal) (o : Option Record) → x ≡ Ok o → is_some o ≡ true → hands_of (said_next x) ≡ true
some_hands x (Some r) e h = ap (λ (y : Result (Option Record) Refusal). hands_of (said_next y)) e
some_hands x None e h = absurd (let z : ◌≡◌ {A = ℕ} 0 1 = cc in omega arith)

none_ends : (x : Result (Option Record) Refusal) (o : Option Record) → x ≡ Ok o → is_some o ≡ false → said_next x ≡ End
none_ends x (Some r) e h = absurd (let z : ◌≡◌ {A = ℕ} 0 1 = cc in omega arith)
none_ends x None e h = ap said_next e

pub loop-t-smaller : goal.loop-t-smaller
loop-t-smaller c =
    let d = c.loop-t.t in
    let h = sym (ap (λ (x : Turn). hands_of x.next) c.next-s.ensures) ∙ some_hands _ _ c.in_ok-s.was c.if-is_none.ensures in
    omega (
      arith,
      less d.file.now d.state h,
      ap (λ (x : Sheet). length x.file.now) c.after-t.ensures,
      ap (λ (x : Sheet). x.state.at) c.after-t.ensures,
      ap (λ (x : Turn). x.state.at) c.next-s.ensures,
    )

pub loop-t-preserved : goal.loop-t-preserved
loop-t-preserved c =
    let d = c.loop-t.t in
    let r = c.args.r in
    let h = sym (ap (λ (x : Turn). hands_of x.next) c.next-s.ensures) ∙ some_hands _ _ c.in_ok-s.was c.if-is_none.ensures in
    let k = ap (λ (x : Sheet). x.state) c.after-t.ensures ∙ ap (λ (x : Turn). x.state) c.next-s.ensures in
    let g : d.file.now ≡ r.file.now = cc (c.loop-t.invariant.same_file) in
    record {
      same_file = ap (λ (x : Sheet). x.file) c.after-t.ensures ∙ c.loop-t.invariant.same_file;
      ends_alike =
          λ a e.
          c.loop-t.invariant.ends_alike a (goes r.file.now d.file.now d.state a g h (subst (λ (t : State). Ends r.file.now a t) k e));
    }

pub returns-in_err-s : goal.returns-in_err-s
returns-in_err-s c =
    let d = c.loop-t.t in
    let r = c.args.r in
    let f = c.in_err-s.field-0.0 in
    let e : c.from_residual.result ≡ Err f = search rules in
    let n : (next_record d.file.now d.state).next ≡ Refuses f = ap (λ (x : Turn). x.next) (sym c.next-s.ensures) ∙ ap said_next c.in_err-s.was in
    let g : d.file.now ≡ r.file.now = cc (c.loop-t.invariant.same_file) in
    rw e (c.loop-t.invariant.ends_alike _ (stops r.file.now d.file.now d.state _ g (ap hands_of n) (sym n)))

pub returns-then-is_none : goal.returns-then-is_none
returns-then-is_none c =
    let d = c.loop-t.t in
    let r = c.args.r in
    let n : (next_record d.file.now d.state).next ≡ End = ap (λ (x : Turn). x.next) (sym c.next-s.ensures) ∙ none_ends _ _ c.in_ok-s.was c.if-is_none.ensures in
    let g : d.file.now ≡ r.file.now = cc (c.loop-t.invariant.same_file) in
    c.loop-t.invariant.ends_alike _ (stops r.file.now d.file.now d.state _ g (ap hands_of n) (sym n))
