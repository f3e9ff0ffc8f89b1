pub mod Marks
mod Pieces
mod Texts
