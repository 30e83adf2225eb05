-- The buyer's three demands, a page each.
pub mod EveryCallAnswers
pub mod ReadAndWritten
pub mod OneFile
-- What they rest on: demand 1,
pub mod Answered
pub mod Codes
pub mod Runs
pub mod Made
pub mod Calls
pub mod Refusals
pub mod Refused
pub mod Exactly
pub mod Calendar
pub mod EachCall
pub mod Writing
-- demand 2,
pub mod TakenRuns
pub mod Files
pub mod Back
-- demand 3.
pub mod Dates
pub mod Steps
pub mod Walk
pub mod Same
