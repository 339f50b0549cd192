pub mod Plan
pub mod Setup
pub mod Solve
pub mod KeepOut
