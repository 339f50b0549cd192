-- The crate's laws that belong to no one function.
pub mod Places
pub mod Tables
pub mod Walk
