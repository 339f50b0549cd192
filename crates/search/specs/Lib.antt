pub mod Search
pub mod Query
