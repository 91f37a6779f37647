-- What a receiver heard, and what it shows then. Read the files in this order.
pub mod Receipts
pub mod Run
pub mod Chained
pub mod Tags
pub mod Shown
pub mod Confirmed
pub mod NotShown
pub mod Kept
-- The state of the code: what it follows from, and its forms in memory. Callers do not need it.
pub mod Holds
pub mod State
pub mod Confirming
pub mod ReceiverAt
pub mod Stored
pub mod Older
pub mod Borrowed
pub mod Counts
-- Lemmas that crates above use.
pub mod OneView
pub mod KeptLemmas
pub mod ConfirmedLemmas
