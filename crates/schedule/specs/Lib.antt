pub mod Schedule
pub mod Shared
pub mod Offsets
