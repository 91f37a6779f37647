pub mod Appending
pub mod Digits
pub mod DigitLanes
pub mod SpreadDigits
pub mod Waiting
