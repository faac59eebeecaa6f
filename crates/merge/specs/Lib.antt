pub mod Whole
pub mod InTurn
