pub mod Requests
pub mod RequestsLaws
