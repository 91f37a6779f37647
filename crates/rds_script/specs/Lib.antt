-- The meaning of the rows of a script, and the output of its slots.
pub mod Verbs
pub mod Receptions
pub mod Rows
pub mod OnAir
pub mod Outcomes
-- The promise of the calls: `simulate` and `encode` play a script.
pub mod Play
-- The state of the crate's objects, a file for each. Callers do not need them.
pub mod Inside
-- Lemmas that crates above use.
pub mod BorrowedReads
