pub mod Followed
pub mod Once
pub mod Outcomes
pub mod Replica
pub mod Reports
