pub mod Symbols
pub mod Meaning
