pub mod Attributes
pub mod Children
pub mod Levels
pub mod Passing
pub mod Same
pub mod Sorted
pub mod Joined
pub mod XmlTexts
