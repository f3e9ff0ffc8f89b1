pub mod Negated
pub mod Refused
pub mod Told
