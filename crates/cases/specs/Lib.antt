pub mod Sample
pub mod Records
pub mod Cases
