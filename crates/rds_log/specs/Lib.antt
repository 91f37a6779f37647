-- The output of the slots of a log.
pub mod LogWrites
-- The promises of the calls, each in a file of its name.
pub mod Decode
pub mod Audit
pub mod FaultList
pub mod Fill
pub mod FilledLog
-- The state of the crate's objects, a file for each. Callers do not need them.
pub mod Inside
