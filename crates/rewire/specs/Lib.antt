pub mod Rewiring
