-- What each private object holds after its inputs: one file an object.
pub mod ViewLines
pub mod Decoder
pub mod Auditor
pub mod Pace
pub mod Filler
