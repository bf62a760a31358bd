pub mod Cases
pub mod WorklistCases
