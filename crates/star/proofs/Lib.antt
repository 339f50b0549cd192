-- The crate's laws that belong to no one function.
pub mod Adding
pub mod Growing
