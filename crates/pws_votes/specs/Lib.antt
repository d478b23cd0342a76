pub mod Laws
pub mod ListBooks
pub mod MaskBooks
pub mod Masks
pub mod Votes
