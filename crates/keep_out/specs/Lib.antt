pub mod Covers
pub mod Good
