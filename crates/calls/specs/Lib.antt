pub mod Reply
pub mod Calls
pub mod Report
pub mod Rules
