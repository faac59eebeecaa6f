pub mod Keyed
pub mod Filled
pub mod Rows
pub mod Reaching
pub mod Standing
pub mod Going
