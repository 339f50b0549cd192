pub mod Valid
pub mod Points
pub mod Accepts
