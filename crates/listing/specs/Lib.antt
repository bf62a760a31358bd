pub mod Rows
pub mod Host
pub mod Planned
