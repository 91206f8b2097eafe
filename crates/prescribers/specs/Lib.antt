pub mod Pairs
pub mod Meanings
pub mod Flats
pub mod Order
pub mod Usual
pub mod Shares
pub mod Lawful
