-- The lines of a log, what they say, and their slots.
pub mod LogLines
pub mod LineSays
pub mod LogSlots
pub mod LineTimes
-- The promises of the calls, each in a file of its name.
pub mod Reads
pub mod Outputs
pub mod Gather
-- The state of the crate's objects, a file for each. Callers do not need them.
pub mod Inside
-- Lemmas that crates above use.
pub mod OneLog
