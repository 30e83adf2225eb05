-- What demand 1 says call by call, gathered from the laws of each.
-- Assumes nothing.
use Rattle.demands.specs.EachCall.{Answered, NumberAndPlace}
use Rattle.demands.proofs.Answered.{usage_answered, supplement_answered, set_answered}
use Rattle.demands.proofs.Codes.{usage_refused, supplement_refused}
use Rattle.demands.proofs.Runs.{run_exactly}
use Rattle.demands.proofs.Made as dates
use Rattle.demands.proofs.Refusals.{call_refused}
use Rattle.demands.proofs.Exactly.{file_exactly}
use Rattle.demands.proofs.Calendar.{calendar_exactly}

-- Writing has one answer.
pub answered : Answered
answered = record { usage = usage_answered; supplement = supplement_answered; set = set_answered }

-- A refusal is one of the table's numbers, with its place.
pub number_and_place : NumberAndPlace
number_and_place =
    record {
      usage = usage_refused;
      supplement = supplement_refused;
      run = run_exactly;
      file = file_exactly;
      state = call_refused;
      western = dates.western;
      era = dates.era;
      date = dates.unnamed;
      date_read = dates.read;
      calendar = calendar_exactly;
      usage_written = λ i w k. k.refuses;
      supplement_written = λ x w k. k.refuses;
    }
