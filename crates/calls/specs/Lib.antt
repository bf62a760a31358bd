pub mod Lent
pub mod Runs
