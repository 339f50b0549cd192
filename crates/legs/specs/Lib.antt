pub mod Bits
pub mod Next
