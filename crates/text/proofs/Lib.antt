pub mod Pasted
pub mod Columns
pub mod Numbers
pub mod Answer
