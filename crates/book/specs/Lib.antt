pub mod Book
pub mod Pairs
