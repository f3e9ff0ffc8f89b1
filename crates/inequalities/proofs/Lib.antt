pub mod Asked
pub mod Boxes
mod Signs
mod Weighed
pub mod Rows
pub mod Agreement
mod Steps
