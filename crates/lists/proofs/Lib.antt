pub mod Tests
pub mod Numbers
pub mod Lists
pub mod Parts
pub mod Sums
pub mod Cuts
pub mod Distinct
pub mod Ids
