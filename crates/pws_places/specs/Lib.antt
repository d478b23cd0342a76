pub mod DigestMaps
pub mod PlaceMaps
pub mod Rings
