pub mod Laws
pub mod Several
pub mod Own
