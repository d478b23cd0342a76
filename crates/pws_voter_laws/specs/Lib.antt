pub mod Enabled
pub mod Fitting
pub mod Rest
pub mod Room
pub mod Staying
