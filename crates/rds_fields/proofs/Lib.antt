pub mod Shifts
pub mod OneGroup
pub mod Written
pub mod Exchange
