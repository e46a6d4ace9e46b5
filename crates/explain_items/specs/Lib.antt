pub mod Items
pub mod ItemsLaws
