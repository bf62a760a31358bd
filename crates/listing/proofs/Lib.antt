pub mod Lines
pub mod Growing
pub mod Planned
pub mod Hosting
pub mod Printing
