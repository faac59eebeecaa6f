pub mod Cursors
pub mod Runs
