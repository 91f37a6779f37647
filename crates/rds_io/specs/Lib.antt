-- Readers and writers that count their failures, and what a call wrote.
pub mod Told
pub mod Puts
pub mod Waits
pub mod ReadFailed
pub mod Alike
-- Hexadecimal digits.
pub mod Digits
