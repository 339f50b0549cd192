-- The crate's laws that belong to no one function.
pub mod Parks
pub mod Charting
