-- A group as its four blocks.
pub mod Words
-- The form in memory: one number. Callers do not need it.
pub mod Bits
-- Lemmas that crates above use.
pub mod SecondWord
