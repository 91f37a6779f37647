-- Lemmas of the wire laws.
pub mod Logs
pub mod Receiving
pub mod Reading
pub mod Wired
pub mod Filling
pub mod Runs
pub mod Twice
pub mod WorkedRows
pub mod ByRows
pub mod MissesNothing
pub mod Reached
pub mod Delivered
pub mod HeadlineRows
pub mod Headline
pub mod NothingNew
pub mod Kept
pub mod KeptRows
