pub mod Order
pub mod Exactly
pub mod Mapped
