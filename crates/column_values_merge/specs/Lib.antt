pub mod Word
pub mod Stack
