-- The crate's laws that belong to no one function.
pub mod Search
pub mod Number
pub mod Walk
