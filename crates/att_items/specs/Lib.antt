pub mod Iterators
