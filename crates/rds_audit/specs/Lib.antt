-- The audit of a log of sent groups. Read the files in this order: the rules of a log, the list of all its faults, then
-- the state of the audit, then the laws that lead from a log that passes to safety.
pub mod Forms
pub mod Dense
pub mod Recording
pub mod Judging
pub mod Reigns
pub mod Rules
pub mod Lengths
pub mod Listing
pub mod Ages
pub mod ReignsState
pub mod AuditState
pub mod Stored
pub mod AuditAt
pub mod AuditLaws
pub mod FlagLaws
pub mod ListingLaws
pub mod Broken
