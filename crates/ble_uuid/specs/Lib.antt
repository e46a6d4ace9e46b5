pub mod Uuids
pub mod UuidsLaws
