pub mod Asks
pub mod Calls
pub mod EffectLaws
pub mod Led
pub mod Noted
pub mod Others
pub mod Splits
pub mod Turns
