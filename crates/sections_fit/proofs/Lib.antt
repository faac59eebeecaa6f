pub mod Walks
pub mod Own
pub mod Seven
