-- A text or a name: its bytes, its segments, and when held segments make it whole. Read the files in this order.
pub mod Cells
pub mod Value
pub mod Body
pub mod Whole
pub mod ServiceLaws
-- The forms in memory. Callers do not need them.
pub mod Held
pub mod Lanes
pub mod Filled
-- Lemmas that crates above use.
pub mod OwnSegments
