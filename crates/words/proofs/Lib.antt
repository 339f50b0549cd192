mod Patterns
mod Runs
mod Cases
mod Numerals
