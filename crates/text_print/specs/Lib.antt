pub mod Lines
pub mod Print
pub mod PrintLaws
pub mod RoundTrip
