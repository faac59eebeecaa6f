pub mod Census
pub mod Class
pub mod Settled
pub mod Table
