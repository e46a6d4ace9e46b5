pub mod Packets
pub mod PacketsLaws
