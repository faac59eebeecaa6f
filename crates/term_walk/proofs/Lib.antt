pub mod Merge
pub mod Heaps
pub mod Places
pub mod Going
pub mod Ends
