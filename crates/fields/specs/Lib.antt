pub mod Ranges
pub mod Made
pub mod Satisfied
