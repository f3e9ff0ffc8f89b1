pub mod Laws
pub mod Coded
pub mod Sizes
