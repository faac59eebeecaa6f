pub mod Laws
pub mod Stand
pub mod Index
pub mod Map
pub mod Values
pub mod Counted
pub mod Joined
pub mod Pair
