pub mod Answered
pub mod Listed
pub mod RingLemmas
pub mod TreeMaps
