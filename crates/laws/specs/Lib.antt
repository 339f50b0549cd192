pub mod Cases
pub mod Rest
pub mod Order
