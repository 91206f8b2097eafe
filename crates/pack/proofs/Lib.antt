pub mod Levels
pub mod Tracking
pub mod Answering
pub mod Permitting
