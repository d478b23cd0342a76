pub mod Answered
pub mod Inside
pub mod Places
pub mod Rows
pub mod Sets
