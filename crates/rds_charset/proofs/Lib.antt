pub mod Characters
pub mod Symbols
pub mod PrintedText
