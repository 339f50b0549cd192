pub mod None
pub mod Kept
