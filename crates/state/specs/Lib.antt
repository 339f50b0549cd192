pub mod Ranges
pub mod Made
pub mod Distance
pub mod Steering
pub mod Rows
