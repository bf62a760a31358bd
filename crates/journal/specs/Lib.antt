pub mod Entry
pub mod Answering
pub mod Running
