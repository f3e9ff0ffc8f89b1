pub mod Flat
pub mod Reversal
