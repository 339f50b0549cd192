-- The one statement on each table.
pub mod Constants
pub mod Examples
