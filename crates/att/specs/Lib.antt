pub mod Formats
pub mod Items
pub mod Proper
pub mod Typed
pub mod Wire
