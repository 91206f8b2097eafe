pub mod Arrays
pub mod Counted
pub mod Exact
pub mod Implies
pub mod Masks
pub mod Order
pub mod Table
