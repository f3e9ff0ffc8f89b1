pub mod Computed
pub mod Opening
pub mod Reading
pub mod Rests
pub mod Places
pub mod Question
pub mod Meaning
pub mod Listed
