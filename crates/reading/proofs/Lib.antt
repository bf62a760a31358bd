pub mod Rows
pub mod CalibrationsRead
pub mod Lines
pub mod LineParts
pub mod PartsRead
pub mod BatchesRead
pub mod HeadRead
