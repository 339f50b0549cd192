pub mod Places
pub mod Queue
