pub mod Permit
pub mod PermitLaws
