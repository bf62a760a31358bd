pub mod Groups
pub mod MarkWords
pub mod Reaching
pub mod Within
