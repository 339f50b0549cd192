-- The crate's laws that belong to no one function.
pub mod Adds
pub mod Queries
pub mod Demand
pub mod Emptied
