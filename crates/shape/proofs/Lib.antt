pub mod Laws
pub mod Sides
