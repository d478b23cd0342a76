pub mod CallOrder
pub mod Courses
pub mod Leds
pub mod Moving
pub mod Told
