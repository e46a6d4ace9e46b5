pub mod Position
pub mod Reading
