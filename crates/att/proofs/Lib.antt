pub mod FieldBytes
pub mod NoShift
pub mod Proper
pub mod RoundTrip
pub mod TypedMeans
