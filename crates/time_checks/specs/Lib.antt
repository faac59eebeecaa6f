pub mod Times
pub mod Lent
