-- Plans of broadcasts, late inputs, and when views are safe. Nothing here refers to a world or an audit. Read the files
-- in this order.
pub mod Marks
pub mod Lawful
pub mod Late
pub mod Plans
pub mod Source
pub mod Safe
pub mod OwnClock
pub mod Near
pub mod Confirmed
pub mod Laws
pub mod ConfirmedLaws
pub mod Kept
pub mod FlagAlone
pub mod FlagLaws
-- Lemmas that crates above use.
pub mod Flags
