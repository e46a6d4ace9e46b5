pub mod Walks
pub mod WalksLaws
