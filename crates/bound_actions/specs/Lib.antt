pub mod Reads
pub mod Patterns
pub mod Assigned
