pub mod Cursors
pub mod Begin
