pub mod Answer
pub mod Wanted
