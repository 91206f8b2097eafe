pub mod Ordering
pub mod Running
