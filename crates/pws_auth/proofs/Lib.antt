pub mod Blocks
pub mod Found
pub mod Maps
pub mod Puts
pub mod Rows
pub mod Seeds
pub mod Shared
