-- Lemmas about runs. They are here for the proofs alone, since the laws of an `impl` may name them in `specs` only.
pub mod AskRuns
pub mod CallLaws
pub mod CallRuns
pub mod Cases
pub mod Counts
pub mod Firsts
pub mod Kept
pub mod KeyLists
pub mod ReplyLaws
pub mod ReplyRuns
pub mod RunLaws
