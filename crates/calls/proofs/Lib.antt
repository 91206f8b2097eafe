pub mod Spares
pub mod Outcomes
pub mod Exact
pub mod Ranges
