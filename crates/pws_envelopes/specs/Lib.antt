-- To be believed, in the order of reading.
pub mod Fields
pub mod SoapWords
pub mod Acts
-- For the proofs alone.
pub mod Fits
