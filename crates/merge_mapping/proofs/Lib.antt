pub mod Bytes
pub mod Turns
pub mod Left
pub mod Laid
pub mod Stood
pub mod Own
