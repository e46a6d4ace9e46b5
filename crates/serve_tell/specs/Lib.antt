pub mod Tell
pub mod TellLaws
