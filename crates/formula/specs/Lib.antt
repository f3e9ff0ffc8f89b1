pub mod Clause
pub mod Numbering
pub mod Dimacs
pub mod Assignment
pub mod Kind
pub mod Count
