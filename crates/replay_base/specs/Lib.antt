pub mod Base
pub mod BaseLaws
