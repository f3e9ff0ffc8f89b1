pub mod Bytes
pub mod Name
