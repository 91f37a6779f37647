pub mod Audited
pub mod WorkedRows
pub mod Decodes
pub mod OneVerdict
pub mod Filled
