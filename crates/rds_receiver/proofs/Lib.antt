pub mod Runs
pub mod Longest
pub mod WorkedRows
pub mod Shows
pub mod ConfirmingSteps
pub mod Ages
pub mod Counting
