pub mod Located
pub mod Rows
