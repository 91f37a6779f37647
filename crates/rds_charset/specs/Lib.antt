-- The characters of bytes, the printed form of a text, how it is read, and what a display shows of it.
pub mod Table
pub mod Printed
pub mod ReadAs
pub mod BadCharacters
pub mod Faults
pub mod Displays
pub mod Laws
-- The state of the code. Callers do not need it.
pub mod Ranges
