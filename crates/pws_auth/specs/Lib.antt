pub mod Hmac
pub mod Keys
pub mod Laws
pub mod Pairs
pub mod Steps
pub mod Tags
