pub mod Refused
pub mod Told
