pub mod Done
pub mod Followed
pub mod Lines
pub mod Pushes
pub mod Taken
