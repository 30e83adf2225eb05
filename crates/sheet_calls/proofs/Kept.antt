-- What holds of the arrays that a call leaves.
-- Assumes nothing.
use Prim.Native.Nat.{ℕ}
use mathlib.Core.Path.{◌≡◌, ap, sym}
use mathlib.Core.List.{List}
use Rattle.record.specs.declared.Record.{Record}
use Rattle.record.specs.declared.Refusal.{Refusal}
use Rattle.reader.specs.Said.{Next, Hands, Refuses, End, Turn, Check, Records, Not}
use Rattle.plain_record.specs.Records.{record_numbers}
use Rattle.told.specs.States.{reader_numbers, reader_of}
use Rattle.told.specs.Answers.{refused_number, refusal_numbers, no_refusal, handed_state}
use Rattle.sheet_calls.specs.Calls.{Checks, Steps}

-- Checking a sheet: one that is taken is told as the number of its records,
module _ (x : Check) (before : ℕ) where
  pub checks_on : (n : ℕ) → x ≡ Records n → Checks x before 0 no_refusal n
  checks_on n h = record { returns = rw h; refuses = rw h; leaves = rw h }

  -- and a refusal leaves the count as it was.
  pub checks_refused : (f : Refusal) → x ≡ Not f → (n : ℕ) (told : List ℕ) → (n ≡ refused_number f) × (told ≡ refusal_numbers f) → Checks x before n told before
  checks_refused f h n told e = record { returns = rw h e.0; refuses = rw h e.1; leaves = rw h }

-- One call of the reader, by what it hands out: a record and the state after it,
module _ (x : Turn) (state₀ numbers₀ : List ℕ) where
  pub steps_on : (r : Record) → x.next ≡ Hands r → (state numbers : List ℕ) → (state ≡ reader_numbers x.state) × (reader_of state ≡ x.state) →
      numbers ≡ record_numbers r → Steps x state₀ numbers₀ 0 no_refusal state numbers
  steps_on r h state numbers e n =
      record { returns = rw h; refuses = rw h; moves = rw h e.0; leaves = rw h n; holds = e.1 }

  -- what is no record leaves the state
  stays : {a : Next} → x.next ≡ a → handed_state a (reader_numbers x.state) state₀ ≡ handed_state x.next (reader_numbers x.state) state₀
  stays h = sym (ap (λ (b : Next). handed_state b (reader_numbers x.state) state₀) h)

  -- a refusal, which leaves both arrays as they were,
  pub steps_refused : (f : Refusal) → x.next ≡ Refuses f → (n : ℕ) (told : List ℕ) → (n ≡ refused_number f) × (told ≡ refusal_numbers f) →
      reader_of state₀ ≡ x.state → Steps x state₀ numbers₀ n told state₀ numbers₀
  steps_refused f h n told e z = record { returns = rw h e.0; refuses = rw h e.1; moves = stays h; leaves = rw h; holds = z }

  -- and so does the end.
  pub steps_end : x.next ≡ End → reader_of state₀ ≡ x.state → Steps x state₀ numbers₀ 65535 no_refusal state₀ numbers₀
  steps_end h z = record { returns = rw h; refuses = rw h; moves = stays h; leaves = rw h; holds = z }
