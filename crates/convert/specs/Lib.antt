pub mod Risen
pub mod Fits
pub mod Outcome
