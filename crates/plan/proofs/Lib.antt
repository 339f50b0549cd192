-- The crate's laws that belong to no one function.
pub mod Usable
pub mod Views
pub mod Answers
pub mod Adding
