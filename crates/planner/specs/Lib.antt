pub mod Items
pub mod Calls
pub mod Laid
pub mod Search
pub mod Drawing
