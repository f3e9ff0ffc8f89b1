pub mod Weights
pub mod Asks
pub mod Solved
