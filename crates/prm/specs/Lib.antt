pub mod Planner
pub mod Construct
pub mod Query
pub mod Adding
