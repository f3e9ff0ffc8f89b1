pub mod Sides
pub mod Reversal
