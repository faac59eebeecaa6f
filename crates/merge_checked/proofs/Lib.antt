pub mod Given
pub mod Planned
pub mod Leaves
pub mod Ends
