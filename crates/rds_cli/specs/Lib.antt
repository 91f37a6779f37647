-- The arguments, what they ask for, and examples.
pub mod CommandLine
pub mod Asks
pub mod Examples
