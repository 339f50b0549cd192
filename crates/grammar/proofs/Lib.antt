-- The crate's laws that belong to no one function.
pub mod Others
