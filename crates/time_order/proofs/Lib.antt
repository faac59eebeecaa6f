pub mod Single
pub mod Tables
pub mod Bare
pub mod Lent
pub mod Outcomes
