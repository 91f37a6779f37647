-- What the calls return.
pub mod Codes
pub mod Names
pub mod Labels
-- The structs of the caller, and what they say.
pub mod Slots
pub mod Sent
pub mod Viewed
pub mod Tagged
pub mod Texts
pub mod Held
-- The time that a text begins with.
pub mod Times
