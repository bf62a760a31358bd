pub mod Attempt
pub mod Moves
pub mod Track
