-- What the program does with its arguments and its input.
pub mod Run
pub mod RunInput
-- Lemmas that crates above use.
pub mod RunsBy
