pub mod Tests
pub mod TestsLaws
