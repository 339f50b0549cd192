pub mod Runs
pub mod Closed
pub mod Constructed
