-- The input of a receiver that loses some slots of a log, and when its view is a mix.
pub mod Lost
pub mod Mix
pub mod Borrowed
-- When a receiver shows all that another one shows.
pub mod Part
pub mod Covered
pub mod Search
pub mod Firsts
-- The output lines, and the promise of the call.
pub mod Lines
pub mod LossLines
pub mod SomeLines
pub mod Candidates
pub mod Witness
-- The slots to lose, on a command line.
pub mod Spans
