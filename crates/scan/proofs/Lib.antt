pub mod Machine
pub mod Terms
pub mod Words
