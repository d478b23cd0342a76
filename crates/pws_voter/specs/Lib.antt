pub mod Codes
pub mod Shown
pub mod Windows
pub mod Ranges
