pub mod Computed
pub mod Reading
pub mod Faults
pub mod Overlapping
pub mod Offsets
pub mod Turns
