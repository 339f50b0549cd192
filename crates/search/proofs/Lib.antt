-- The crate's laws that belong to no one function.
pub mod Trees
pub mod Breadth
pub mod Milestones
pub mod Queries
