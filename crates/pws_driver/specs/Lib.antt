-- To be believed, in the order of reading.
pub mod Envelopes
pub mod Services
pub mod Values
pub mod Keys
pub mod Moves
pub mod Instructions
pub mod Takings
pub mod Zeros
pub mod Runs
pub mod Laws
-- What the private parts of the runner say of one another.
pub mod Did
pub mod Places
-- For the proofs alone.
pub mod Lemmas
