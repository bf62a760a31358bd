pub mod Represent
pub mod Answers
pub mod Change
pub mod View
