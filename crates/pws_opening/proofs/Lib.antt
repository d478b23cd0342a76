pub mod Marks
pub mod Seals
