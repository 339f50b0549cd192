pub mod Path
pub mod Written
