pub mod Risen
pub mod Own
pub mod Cells
pub mod Outcomes
