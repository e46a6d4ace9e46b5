pub mod Ascii
pub mod Buffer
pub mod BufferLaws
pub mod Cases
pub mod CasesLaws
pub mod Refusals
