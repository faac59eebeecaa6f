pub mod Words
pub mod Filled
pub mod Sections
pub mod Input
pub mod Fitting
