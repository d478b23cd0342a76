pub mod Bounds
pub mod Counted
pub mod Laws
pub mod Proposed
pub mod Stores
