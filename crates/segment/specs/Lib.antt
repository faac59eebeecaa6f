pub mod Kind
pub mod Records
pub mod Lent
