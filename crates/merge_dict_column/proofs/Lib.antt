pub mod Ends
pub mod Bridge
pub mod Given
