pub mod Cutting
pub mod Reading
pub mod Runs
