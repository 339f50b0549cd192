pub mod Keep
pub mod Map
pub mod Closed
pub mod View
