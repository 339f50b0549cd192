pub mod Hit
pub mod Prune
pub mod Numbers
