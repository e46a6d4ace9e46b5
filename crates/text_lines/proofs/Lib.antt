pub mod Cuts
pub mod KeptLaws
