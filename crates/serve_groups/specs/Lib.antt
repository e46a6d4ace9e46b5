pub mod Groups
pub mod GroupsLaws
