pub mod Plan
pub mod Mapped
