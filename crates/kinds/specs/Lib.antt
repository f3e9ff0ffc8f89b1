pub mod Name
pub mod Census
