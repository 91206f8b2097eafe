pub mod Timing
pub mod Stands
pub mod Order
pub mod Mask
