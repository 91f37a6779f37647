-- Lemmas of filled logs.
pub mod Filling
pub mod Minutes
pub mod Fractions
pub mod WorkedRows
