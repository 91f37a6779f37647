pub mod Turns
pub mod WorkedRows
pub mod Spacing
pub mod OnAir
pub mod Delivering
