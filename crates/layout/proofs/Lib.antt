pub mod Made
pub mod Sized
pub mod Listed
pub mod Facts
