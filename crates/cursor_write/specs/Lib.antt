pub mod Writing
pub mod WritingLaws
