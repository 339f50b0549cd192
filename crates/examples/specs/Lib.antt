pub mod Words
pub mod Examples
pub mod Constants
