pub mod Exact
pub mod Folded
pub mod Order
