pub mod Numbers
pub mod Commands
pub mod Displays
pub mod Periods
pub mod Receptions
pub mod OneEvent
pub mod PlayedRows
pub mod OneOutcome
mod WorkedRows
