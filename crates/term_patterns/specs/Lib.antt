pub mod Slots
pub mod Bound
pub mod Patterns
