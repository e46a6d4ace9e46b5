pub mod Faults
pub mod Show
pub mod ShowLaws
