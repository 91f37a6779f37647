pub mod HeldParts
pub mod Rulings
pub mod Mixes
pub mod SpanSteps
pub mod WorkedRows
