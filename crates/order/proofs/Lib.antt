pub mod Below
pub mod Degrees
pub mod Ordering
