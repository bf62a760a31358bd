pub mod Grouping
pub mod Marks
pub mod Waits
