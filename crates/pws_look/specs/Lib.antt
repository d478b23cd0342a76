pub mod Answers
pub mod Envelopes
pub mod Good
pub mod Looks
pub mod Outcomes
pub mod Statuses
pub mod Words
