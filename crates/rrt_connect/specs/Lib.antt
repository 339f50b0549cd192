pub mod Planner
pub mod Solve
