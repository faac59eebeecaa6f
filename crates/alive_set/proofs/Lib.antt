pub mod Ones
pub mod Weight
