-- The message that a group spells, and the group that is written for a message. Read the files in this order.
pub mod Tag
pub mod Bits
pub mod RadioTextPlus
pub mod Spells
pub mod Meaning
pub mod Canonical
pub mod TagGroup
-- The forms in memory. Callers do not need them.
pub mod Stored
-- Lemmas that crates above use.
pub mod OneMessage
