pub mod AllItems
