pub mod Marked
pub mod Members
pub mod Opened
pub mod Put
