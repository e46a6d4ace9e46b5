pub mod Permissions
pub mod PermissionsLaws
