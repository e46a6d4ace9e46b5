pub mod Cursor
pub mod Thin
pub mod ThinN
