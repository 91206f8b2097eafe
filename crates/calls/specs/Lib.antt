pub mod Rejections
pub mod Fields
pub mod Kinds
pub mod Parsed
pub mod Laws
