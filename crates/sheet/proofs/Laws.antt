-- How the calls end is how the file is read: a sheet walked from its opening on.
-- Assumes nothing.
use Prim.Native.Nat.{ℕ}
use mathlib.Core.Path.{◌≡◌, refl, ◌∙◌, sym, ap}
use mathlib.Core.Bool.{true, false}
use mathlib.Core.List.{List}
use native.Mathlib.Omega.{arith}
use Rattle.reader.specs.File.{File, Ending, whole, stopped, read_file}
use Rattle.reader.specs.Reader.{open_file, next_record, ending_of}
use Rattle.reader.specs.Said.{Next, Hands, Refuses, End, Turn, said_next, said}
use Rattle.reader.specs.declared.State.{State}
use Rattle.reader.specs.declared.Step.{Step}
use Rattle.reader.proofs.Laws.{one_step}
use Rattle.reader.proofs.Along.{Tells, by_rest, from_opening}
use Rattle.sheet.specs.Walk.{hands, Ends, here, later}
use Rattle.std.specs.Prelude.{Err, None, Ok, Option, Result, Some}
use Rattle.record.specs.declared.Record.{Record}
use Rattle.record.specs.declared.Refusal.{Refusal}

-- ---- the code's own step, by what is said of it
abbrev pub handed_of : Next → Result (Option Record) Refusal
handed_of (Hands r) = Ok (Some r)
handed_of (Refuses f) = Err f
handed_of End = (Ok None)

abbrev pub step_of : Turn → Step
step_of x = record { next = handed_of x.next; state = x.state }

pub said_again : (x : Next) → said_next (handed_of x) ≡ x
said_again (Hands r) = refl
said_again (Refuses f) = refl
said_again End = refl

pub step_is : (t : Step) (x : Turn) → said t ≡ x → t ≡ step_of x
step_is t x e = one_step t (step_of x) (e ∙ sym (λ i. record { next = said_again x.next i; state = x.state }))

-- ---- how the calls end
-- no ending is a record
no_record : (e : Ending) → hands (ending_of e) ≡ true → ⊥
no_record whole h = let z : ◌≡◌ {A = ℕ} 0 1 = cc in omega arith
no_record (stopped f) h = let z : ◌≡◌ {A = ℕ} 0 1 = cc in omega arith

tells_ends : (s : List ℕ) (a : Next) (t : State) (f : File) → Tells s t f → Ends s a t → a ≡ ending_of f.ending
tells_ends s a t f p (here h e) =
    by_rest s t f (λ w k q. e ∙ ap (λ (x : Turn). x.next) k ∙ ap (λ (g : File). ending_of g.ending) (sym q))
    (λ r g k n q. absurd (let b : true ≡ false = sym (ap hands k) ∙ h in let z : ◌≡◌ {A = ℕ} 0 1 = cc in omega arith)) p
tells_ends s a t f p (later h e) =
    by_rest s t f (λ w k q. absurd (no_record w (sym (ap (λ (x : Turn). hands x.next) k) ∙ h)))
    (λ r g k n q. tells_ends s a (next_record s t).state g n e ∙ ap (λ (x : File). ending_of x.ending) (sym q)) p

pub ends_file : (s : List ℕ) (a : Next) → Ends s a (open_file s) → a ≡ ending_of (read_file s).ending
ends_file s a e = tells_ends s a (open_file s) (read_file s) (from_opening s) e

-- An ending is told by how the calls end.
one_ending : (d e : Ending) → ending_of d ≡ ending_of e → d ≡ e
one_ending whole whole h = refl
one_ending whole (stopped g) h = cc
one_ending (stopped f) whole h = cc
one_ending (stopped f) (stopped g) h = cc

pub walked : (s : List ℕ) (e : Ending) → Ends s (ending_of e) (open_file s) → e ≡ (read_file s).ending
walked s e h = one_ending e (read_file s).ending (ends_file s (ending_of e) h)
