pub mod Bits
pub mod HeldSegments
mod WorkedRows
