pub mod Laws
pub mod Own
