pub mod Lines
pub mod Writing
pub mod Left
pub mod Bounded
pub mod Alike
pub mod Taken
