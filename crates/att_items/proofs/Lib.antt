pub mod StepLaws
pub mod Walk
