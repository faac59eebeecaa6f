pub mod Dict
pub mod Fill
