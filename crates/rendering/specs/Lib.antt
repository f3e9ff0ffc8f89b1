pub mod Lines
pub mod Codes
