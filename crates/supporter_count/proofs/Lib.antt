pub mod Unique
pub mod Marking
