pub mod Packets
pub mod PacketsLaws
pub mod SpeakLaws
