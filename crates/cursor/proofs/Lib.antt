pub mod PositionLaws
pub mod ReadingLaws
