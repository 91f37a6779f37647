-- What each private object holds after its inputs: one file an object, in the order of the data, from the bytes of a
-- reader to the lines that are written.
pub mod FailureFlag
pub mod Compared
pub mod Watched
pub mod Player
