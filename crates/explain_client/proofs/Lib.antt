pub mod KeptLaws
