pub mod Decimal
pub mod Bits
pub mod Hex
