pub mod Asking
pub mod Counting
pub mod Holding
pub mod Keeping
pub mod Named
