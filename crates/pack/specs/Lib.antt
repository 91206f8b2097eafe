pub mod Steps
pub mod History
pub mod Exact
pub mod Called
