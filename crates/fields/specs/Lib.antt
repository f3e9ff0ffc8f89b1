pub mod Memory
pub mod Answer
