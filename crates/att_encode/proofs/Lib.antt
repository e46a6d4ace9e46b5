pub mod RoundTrip
pub mod TailLaws
pub mod WriteLaws
