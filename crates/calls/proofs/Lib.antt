pub mod Replies
pub mod Runs
pub mod Interleaved
