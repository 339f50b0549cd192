pub mod Good
pub mod None
