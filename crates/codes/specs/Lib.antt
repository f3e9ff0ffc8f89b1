pub mod Cell
pub mod Nine
pub mod Sign
