pub mod Words
pub mod Instances
pub mod Vectors
pub mod Right
pub mod Twins
