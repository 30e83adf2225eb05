-- What the reader answers, as document 01 has it: "For an answer that is an enum, a definition gives this paper's number and values for each
-- case. The promises use that definition."
-- Assumes nothing.
use Rattle.std.specs.Prelude.{ℕ, Err, None, Ok, Option, Result, Some}
use Rattle.record.specs.declared.Record.{Record}
use Rattle.record.specs.declared.Refusal.{Refusal}
use Rattle.reader.specs.declared.State.{State}
use Rattle.reader.specs.declared.Step.{Step}

-- One call: "hands out one record at a time"; or a refusal, with its number and place; or the end.
pub data Next : Type 0 where
  Hands : Record → Next
  Refuses : Refusal → Next
  End : Next

-- And the state to go on with.
pub record Turn : Type 0 where
  pub next : Next
  pub state : State

-- A file that is checked: how many records it has with its version line, or its refusal.
pub data Check : Type 0 where
  Records : ℕ → Check
  Not : Refusal → Check

-- What the code hands out,
abbrev pub said_next : Result (Option Record) Refusal → Next
said_next (Ok (Some r)) = Hands r
said_next (Err f) = Refuses f
said_next (Ok None) = End

-- what a call of it answers,
abbrev pub said : Step → Turn
said w = record { next = said_next w.next; state = w.state }

-- and what checking answers.
abbrev pub said_check : Result ℕ Refusal → Check
said_check (Ok n) = Records n
said_check (Err f) = Not f
