-- The crate's laws that belong to no one function.
pub mod View
pub mod Climb
pub mod Stores
pub mod Back
pub mod Upwards
