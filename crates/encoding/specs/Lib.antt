pub mod Answer
pub mod Lines
