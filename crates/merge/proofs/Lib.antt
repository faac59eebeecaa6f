pub mod Call
pub mod InTurn
pub mod Exhibit
