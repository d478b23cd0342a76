pub mod Drivers
pub mod Effects
pub mod Holders
pub mod Keys
pub mod Lawful
pub mod Laws
pub mod Noting
