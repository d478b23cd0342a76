pub mod Counted
pub mod Ended
pub mod OneAnswer
pub mod OneOutcome
pub mod Reports
pub mod Scripts
pub mod SomeOutcome
pub mod Told
