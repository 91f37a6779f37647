pub mod ByWords
pub mod Memory
