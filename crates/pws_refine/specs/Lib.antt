pub mod Alone
pub mod Contexts
pub mod Cores
pub mod Inputs
pub mod Laws
pub mod Links
pub mod Ready
