pub mod FirstForm
pub mod FirstFormErrors
pub mod HexErrors
pub mod Hexadecimal
pub mod Laws
pub mod Spelled
pub mod Statuses
