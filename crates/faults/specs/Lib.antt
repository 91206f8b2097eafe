pub mod Faults
pub mod Rules
pub mod Observed
pub mod Blocking
pub mod Order
