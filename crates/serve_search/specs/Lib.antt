pub mod Search
pub mod SearchLaws
pub mod Walk
pub mod WalkLaws
