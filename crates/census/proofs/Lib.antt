pub mod Rows
pub mod Class
pub mod Rules
pub mod Settled
pub mod Table
