-- The slots that a log lacks by the times of its groups, and the times in its text.
pub mod Arrivals
pub mod Delivered
pub mod Coarse
pub mod Breaks
pub mod Stamps
-- What the laws say of filled logs.
pub mod Laws
