pub mod Found
pub mod Jobs
pub mod Reads
pub mod Sets
