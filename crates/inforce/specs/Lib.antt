pub mod Ages
pub mod Level
