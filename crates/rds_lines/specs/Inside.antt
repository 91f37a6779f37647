-- What each private object holds after its inputs: one file an object, in the order of the data.
pub mod Cutter
pub mod Source
