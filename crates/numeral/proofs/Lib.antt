-- The crate's laws that belong to no one function.
pub mod Rounding
pub mod Patterns
pub mod Cases
