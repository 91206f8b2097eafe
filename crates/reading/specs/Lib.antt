pub mod Regions
pub mod Ranges
