pub mod Generous
pub mod Parts
pub mod Laws
