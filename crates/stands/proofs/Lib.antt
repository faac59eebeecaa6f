pub mod Cells
pub mod Laws
pub mod Stack
pub mod Bulk
pub mod Bridge
pub mod Fill
pub mod There
