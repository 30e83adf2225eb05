-- A record that was read is written again; what a call returns is one of few numbers; what was never opened is told so. The statements of the
-- calls give each answer as a function of what is lent.
-- Assumes nothing.
use Prim.Native.Nat.{ℕ}
use mathlib.Core.Path.{◌≡◌, ◌∙◌, ap, sym, subst}
use mathlib.Core.Bool.{false}
use mathlib.Core.List.{List, [], ◌∷◌}
use lib.ListN.{get_or}
use Rattle.record.specs.declared.Record.{Record}
use Rattle.reader.specs.Reader.{next_record}
use Rattle.reader.specs.Said.{Next, Hands, Turn}
use Rattle.reader.specs.declared.State.{State}
use Rattle.plain_record.specs.Records.{record_of}
use Rattle.told.specs.States.{reader_numbers, given, reader_of}
use Rattle.told.specs.Answers.{handed_number, handed_record, handed_refusal, handed_state, Returned}
use Rattle.told.proofs.Handed.{record_held}
use Rattle.told.proofs.Numbers as listed
use Rattle.sheet_calls.specs.Calls.{Steps}

-- A record that was handed out: its numbers, handed to the writer, are that record
pub record_again : (s state₀ numbers₀ refusal state numbers : List ℕ) (t : State) (r : Record) (n : ℕ) → (next_record s t).next ≡ Hands r →
    Steps (next_record s t) state₀ numbers₀ n refusal state numbers → record_of numbers ≡ r
record_again s state₀ numbers₀ refusal state numbers t r n h w =
    ap record_of (w.leaves ∙ ap (λ (x : Next). handed_record x numbers₀) h) ∙ record_held s t r h

-- Of every file and every state, also one that no call gave: 0, 65535 at the 1Ah, or one of document 01's numbers for a file.
pub always_a_number : (s state₀ numbers₀ refusal state numbers : List ℕ) (n : ℕ) → Steps (next_record s (reader_of state₀)) state₀ numbers₀ n refusal state numbers →
    Returned s state₀ n
always_a_number s state₀ numbers₀ refusal state numbers n w = subst (Returned s state₀) (sym w.returns) (listed.always_a_number s state₀)

-- A state of zeros, and any whose second number no call leaves, was never opened: 24 at the offset that it names, and state and record stay.
pub never_opened : (s state₀ numbers₀ refusal state numbers : List ℕ) (n : ℕ) → given (get_or state₀ 1 0) ≡ false →
    Steps (next_record s (reader_of state₀)) state₀ numbers₀ n refusal state numbers →
    (n ≡ 24) × (refusal ≡ get_or state₀ 0 0 ∷ 0 ∷ 0 ∷ 0 ∷ []) × (state ≡ state₀) × (numbers ≡ numbers₀)
never_opened s state₀ numbers₀ refusal state numbers n h w =
    let e = listed.never_opened s state₀ h in (
      w.returns ∙ ap (λ (x : Turn). handed_number x.next) e,
      w.refuses ∙ ap (λ (x : Turn). handed_refusal x.next) e,
      w.moves ∙ ap (λ (x : Turn). handed_state x.next (reader_numbers x.state) state₀) e,
      w.leaves ∙ ap (λ (x : Turn). handed_record x.next numbers₀) e,
    )
