pub mod Columns
pub mod Answer
pub mod Puts
