pub mod Tills
pub mod TillsLaws
