pub mod Square
pub mod Difference
pub mod Zeros
pub mod Walk
