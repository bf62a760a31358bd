pub mod Picks
pub mod Placing
pub mod Ranges
pub mod Relocate
pub mod Settles
