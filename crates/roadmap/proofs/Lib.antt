pub mod Span
pub mod Joins
pub mod Grows
pub mod View
pub mod Rows
pub mod Between
